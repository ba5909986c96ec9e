use Rattle.std.specs.Prelude.{◌≡◌, ℕ, suc, List, [], ◌∷◌, ◌++◌}
use Rattle.trees.specs.declared.Joiner.{Joiner}
use Rattle.trees.specs.declared.Postfix.{Postfix}
use Rattle.trees.specs.declared.NodeKind.TheVariants.{Empty, Position, Join, Repeat}
use Rattle.trees.specs.declared.Node.{Node}
use Rattle.trees.specs.Nodes.{node_of}

-- A pattern as a tree. At its leaves stand classes of symbols or, when the atoms are numbered,
-- positions.
pub data Tree (X : Type 0) : Type 0 where
  empty : Tree X
  leaf : X → Tree X
  join : Joiner → Tree X → Tree X → Tree X
  repeat : Postfix → Tree X → Tree X

module _ {X : Type 0} where
  -- The leaves from the left.
  unfoldable pub leaves : Tree X → List X
  leaves empty = []
  leaves (leaf c) = c ∷ []
  leaves (join j s t) = leaves s ++ leaves t
  leaves (repeat k t) = leaves t

  -- The position after those of a tree whose first position is x.
  unfoldable pub past : ℕ → Tree X → ℕ
  past x empty = x
  past x (leaf c) = suc x
  past x (join j s t) = past (past x s) t
  past x (repeat k t) = past x t

  -- The tree with each leaf replaced by its position: positions are numbered from x, from the left.
  unfoldable pub numbered : ℕ → Tree X → Tree ℕ
  numbered x empty = empty
  numbered x (leaf c) = leaf x
  numbered x (join j s t) = join j (numbered x s) (numbered (past x s) t)
  numbered x (repeat k t) = repeat k (numbered x t)

-- The number of a tree's root when its first node has number n: the root is the last node, each operand
-- stands before its joiner, and the left operand's nodes before the right's.
unfoldable pub root : ℕ → Tree ℕ → ℕ
root n empty = n
root n (leaf x) = n
root n (join j s t) = suc (root (suc (root n s)) t)
root n (repeat k t) = suc (root n t)

-- The nodes of a numbered tree, in that order, from node n on.
unfoldable pub listed : ℕ → Tree ℕ → List Node
listed n empty = node_of Empty 0 0 ∷ []
listed n (leaf x) = node_of Position x 0 ∷ []
listed n (join j s t) =
    listed n s ++ (listed (suc (root n s)) t ++ node_of (Join j) (root n s) (root (suc (root n s)) t) ∷ [])
listed n (repeat k t) = listed n t ++ node_of (Repeat k) (root n t) 0 ∷ []

-- The node list of a pattern: nodes from 0, positions from 1.
abbrev pub listing : {X : Type 0} → Tree X → List Node
listing t = listed 0 (numbered 1 t)

-- A node list tells the numbered tree, and together with the leaves the tree.
pub record ListingTells {X : Type 0} (s t : Tree X) : Type 0 where
  pub numbers : listing s ≡ listing t → numbered 1 s ≡ numbered 1 t
  pub whole : listing s ≡ listing t → leaves s ≡ leaves t → s ≡ t
