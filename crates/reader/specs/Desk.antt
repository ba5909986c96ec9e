use Rattle.std.specs.Prelude.{◌≡◌, ℕ, true, List, []}
use Rattle.stack.specs.Lent.{Same}
use Rattle.stack.specs.Stacked.{lent, stacked}
use Rattle.trees.specs.declared.Node.{Node}
use Rattle.reader.specs.declared.records.Group.{Group}
use Rattle.reader.specs.declared.records.Progress.{Progress}
use Rattle.reader.specs.declared.writer.Writer.{Writer}

-- All that a reading works with: the memory, the groups that are open with the innermost first, and the
-- progress.
pub record Desk (C : Type 0) : Type 0 where
  pub nodes : List Node
  pub classes : List C
  pub groups : List Group
  pub progress : Progress

module _ {C : Type 0} where
  abbrev pub desk : List Node → List C → List Group → Progress → Desk C
  desk nodes classes groups p = record { nodes = nodes; classes = classes; groups = groups; progress = p }

  -- The start of a reading: nothing is read, and a base is wanted.
  abbrev pub fresh : List Node → List C → Desk C
  fresh nodes classes =
      desk nodes classes [] (record { nodes = 0; positions = 0; choice = 0; sequence = 0; wanting = true })

  -- What lies before a writer.
  abbrev pub desk_of : Writer C → Desk C
  desk_of w = desk w.nodes.now w.classes.now (stacked w.groups.now) w.progress

  -- Other nodes, so many of them, and all else as before.
  abbrev pub with_nodes : List Node → ℕ → Desk C → Desk C
  with_nodes nodes n d =
      desk nodes d.classes d.groups
      (record { nodes = n; positions = d.progress.positions; choice = d.progress.choice; sequence = d.progress.sequence; wanting = d.progress.wanting })

  -- Two writers over the same lent memory.
  pub record SameMemory (v w : Writer C) : Type 0 where
    pub nodes : Same v.nodes w.nodes
    pub classes : Same v.classes w.classes
    pub stack : v.groups.ghost_name ≡ w.groups.ghost_name
    pub groups : Same (lent v.groups.now) (lent w.groups.now)
