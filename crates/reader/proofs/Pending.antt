use Rattle.std.proofs.Common.{◌≡◌, ℕ, suc, Bool, true, false, List, [], ◌∷◌, ◌++◌, length, Ok, Err, Result}
use mathlib.Core.Option.{Option, some, none}
use Rattle.kinds.specs.declared.Refusal.{Refusal}
use Rattle.trees.specs.declared.Node.{Node}
use Rattle.trees.specs.Listing.{Tree, leaves, past, numbered, root, listed}
use Rattle.reader.specs.declared.records.Group.{Group}
use Rattle.reader.specs.declared.records.Progress.{Progress}
use Rattle.reader.specs.Machine.{Part, wanted, holds, Frame, frame, Turn, goes, stops}
use Rattle.reader.specs.Desk.{Desk}
use Rattle.reader.specs.Writer.{Begins}

-- How the program's memory pictures the trees of a reading.

module _ {C : Type 0} where
  -- Trees written one after another; the last stands first in the list.
  abbrev pub next_position : List (Tree C) → ℕ
  next_position [] = 1
  next_position (t ∷ ts) = past (next_position ts) t

  abbrev pub next_node : List (Tree C) → ℕ
  next_node [] = 0
  next_node (t ∷ ts) = suc (root (next_node ts) (numbered (next_position ts) t))

  abbrev pub laid : List (Tree C) → List Node
  laid [] = []
  laid (t ∷ ts) = laid ts ++ listed (next_node ts) (numbered (next_position ts) t)

  abbrev pub leaves_of : List (Tree C) → List C
  leaves_of [] = []
  leaves_of (t ∷ ts) = leaves_of ts ++ leaves t

  -- The trees that a state holds, the last written first.
  abbrev pub also : Option (Tree C) → List (Tree C) → List (Tree C)
  also none ts = ts
  also (some t) ts = t ∷ ts

  abbrev pub pending_outer : List (Frame C) → List (Tree C)
  pending_outer [] = []
  pending_outer (frame j alts seq ∷ st) = also seq (also alts (pending_outer st))

  abbrev pub pending_part : Part C → List (Tree C) → List (Tree C)
  pending_part wanted ts = ts
  pending_part (holds b p) ts = p ∷ also b ts

  abbrev pub pending : List (Frame C) → Option (Tree C) → Part C → List (Tree C)
  pending st alts part = pending_part part (also alts (pending_outer st))

  -- How many nodes there are up to a tree's root; 0 for no tree.
  abbrev pub link : Option (Tree C) → List (Tree C) → ℕ
  link none ts = 0
  link (some t) ts = next_node (t ∷ ts)

  abbrev pub sequence_link : Part C → List (Tree C) → ℕ
  sequence_link wanted ts = 0
  sequence_link (holds b p) ts = link b ts

  abbrev pub wants : Part C → Bool
  wants wanted = true
  wants (holds b p) = false

  abbrev pub records : List (Frame C) → List Group
  records [] = []
  records (frame j alts seq ∷ st) =
      record { place = j; choice = link alts (pending_outer st); sequence = link seq (also alts (pending_outer st)) } ∷ records st

  abbrev pub progress_of : List (Frame C) → Option (Tree C) → Part C → Progress
  progress_of st alts part =
      record {
        nodes = next_node (pending st alts part);
        positions = length (leaves_of (pending st alts part));
        choice = link alts (pending_outer st);
        sequence = sequence_link part (also alts (pending_outer st));
        wanting = wants part;
      }

  pub record Pictured (st : List (Frame C)) (alts : Option (Tree C)) (part : Part C) (d : Desk C) : Type 0 where
    pub progress : d.progress ≡ progress_of st alts part
    pub groups : d.groups ≡ records st
    pub nodes : Begins d.nodes (laid (pending st alts part))
    pub classes : Begins d.classes (leaves_of (pending st alts part))

  -- A turn of the machine and a turn of the program: both go on, pictured, or both stop for one reason.
  abbrev pub TurnPictured : Turn C → Result (Desk C) Refusal → Type 0
  TurnPictured (goes st alts part) (Ok d) = Pictured st alts part d
  TurnPictured (goes st alts part) (Err why) = ⊥
  TurnPictured (stops why) (Ok d) = ⊥
  TurnPictured (stops why) (Err w) = why ≡ w
