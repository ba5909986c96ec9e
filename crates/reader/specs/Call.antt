use Rattle.std.specs.Prelude.{◌≡◌, ℕ, ◌-◌, List, [], ◌++◌, length, replicate, Ok, Err, Result}
use Rattle.std.proofs.Math.Option.{Option, some, none}
use Rattle.kinds.specs.declared.Atom.{Atom}
use Rattle.kinds.specs.declared.Refused.{Refused}
use Rattle.kinds.specs.declared.Refusal.{Refusal}
use Rattle.trees.specs.declared.Node.{Node}
use Rattle.trees.specs.Nodes.{cleared_node}
use Rattle.trees.specs.Listing.{Tree, leaves, listing, ListingTells}
use Rattle.reader.specs.declared.records.Counts.{Counts}
use Rattle.reader.specs.declared.records.Group.{Group}
use Rattle.reader.specs.Outcome.{Lent, early, outcome}
use Rattle.reader.specs.Law.{ReadsPatterns}

-- What a call returns and leaves in the memory.

abbrev pub cleared_group : Group
cleared_group = record { place = 0; choice = 0; sequence = 0 }

-- What lent memory holds after a call: what it held before, if the call was turned down before reading;
-- otherwise what was written, and cleared records in all places beyond.
abbrev pub holds_after : {X : Type 0} → Option Refusal → X → List X → List X → List X
holds_after (some why) blank before written = before
holds_after none blank before written = written ++ replicate (length before - length written) blank

module _ {C : Type 0} where
  abbrev pub lent_of : List Node → List C → List Group → Lent
  lent_of nodes classes groups = record { nodes = length nodes; classes = length classes; groups = length groups }

  abbrev pub counts_of : Tree C → Counts
  counts_of t = record { nodes = length (listing t); positions = length (leaves t) }

  -- What is returned and written: the counts, the tree's node list and its leaves, or only the refusal.
  abbrev pub counted : Result (Tree C) Refused → Result Counts Refused
  counted (Ok t) = Ok (counts_of t)
  counted (Err f) = Err f

  abbrev pub nodes_of : Result (Tree C) Refused → List Node
  nodes_of (Ok t) = listing t
  nodes_of (Err f) = []

  abbrev pub classes_of : Result (Tree C) Refused → List C
  classes_of (Ok t) = leaves t
  classes_of (Err f) = []

module _ {C : Type 0} (reading : List ℕ → ℕ → Result (Atom C) Refused) (cleared : C)
    (text : List ℕ) (nodes : List Node) (classes : List C) (groups : List Group) where
  abbrev pub found : Result (Tree C) Refused
  found = outcome reading text (lent_of nodes classes groups)

  -- A call of the reader on this text, with this memory: what it returns and what the memory then holds,
  -- and what that means.
  pub record ReadCall (r : Result Counts Refused) (nodes_after : List Node) (classes_after : List C) (groups_after : List Group)
      : Type 0 where
    pub result : r ≡ counted found
    pub nodes_hold : nodes_after ≡ holds_after (early (length text) (lent_of nodes classes groups)) cleared_node nodes (nodes_of found)
    pub classes_hold : classes_after ≡ holds_after (early (length text) (lent_of nodes classes groups)) cleared classes (classes_of found)
    pub groups_hold : groups_after ≡ holds_after (early (length text) (lent_of nodes classes groups)) cleared_group groups []
    pub law : ReadsPatterns reading text (lent_of nodes classes groups) found
    pub telling : (s t : Tree C) → ListingTells s t
