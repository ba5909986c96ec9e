use Rattle.std.specs.Prelude.{◌≡◌, ℕ, ◌≤◌, cond, List, ◌++◌, codes, decimal, Some, None, Option, Result, MatchResult, ◌==◌}
use Rattle.trees.specs.declared.Joiner.TheVariants.{Sequence, Choice}
use Rattle.trees.specs.declared.Postfix.TheVariants.{Star, Plus, Optional}
use Rattle.trees.specs.declared.NodeKind.{NodeKind}
use Rattle.trees.specs.declared.NodeKind.TheVariants.{Empty, Position, Join, Repeat}
use Rattle.trees.specs.declared.UnknownKind.{UnknownKind}
use Rattle.trees.specs.declared.Node.{Node}

-- The number of each kind of node.
abbrev pub kind_number : NodeKind → ℕ
kind_number Empty = 0
kind_number Position = 1
kind_number (Join Sequence) = 2
kind_number (Join Choice) = 3
kind_number (Repeat Star) = 4
kind_number (Repeat Plus) = 5
kind_number (Repeat Optional) = 6

-- The kind of a number; from 7 up there is none.
abbrev pub kind_of : ℕ → Option NodeKind
kind_of n =
    cond (n == 0) (Some Empty)
    (cond (n == 1) (Some Position)
    (cond (n == 2) (Some (Join Sequence))
    (cond (n == 3) (Some (Join Choice))
    (cond (n == 4) (Some (Repeat Star))
    (cond (n == 5) (Some (Repeat Plus))
    (cond (n == 6) (Some (Repeat Optional)) None))))))

-- What turning a number into a kind gives: the kind with that number, or the number back if there is none.
abbrev pub IsKindOf : ℕ → Result NodeKind UnknownKind → Type 0
IsKindOf n r =
    MatchResult r (λ kind. (kind_of n ≡ Some kind) × (kind_number kind ≡ n))
    (λ e. (kind_of n ≡ None) × (7 ≤ n) × (e.0 ≡ n))

-- What is printed of a number that stands for no kind.
abbrev pub unknown_kind_text : UnknownKind → List ℕ
unknown_kind_text unknown = codes "no kind of node has the number " ++ decimal unknown.0

abbrev pub node_of : NodeKind → ℕ → ℕ → Node
node_of kind a b = record { kind = kind_number kind; a = a; b = b }

abbrev pub cleared_node : Node
cleared_node = record { kind = 0; a = 0; b = 0 }
