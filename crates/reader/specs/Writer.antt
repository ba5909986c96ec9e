use Rattle.std.specs.Prelude.{◌≡◌, ℕ, ◌+◌, ◌-◌, true, false, cond, ◌||◌, List, [], ◌∷◌, length, take, Ok, Err, Result, ◌==◌, nat_lt, slice_set}
use Rattle.kinds.specs.declared.Refused.{Refused}
use Rattle.kinds.specs.declared.Refusal.{Refusal}
use Rattle.kinds.specs.declared.Refusal.TheVariants.{BaseWanted, NoOpenGroup, UnfinishedGroup, TooManyGroups, PatternTooLarge}
use Rattle.kinds.specs.Atoms.{refused_at}
use Rattle.trees.specs.declared.Joiner.{Joiner}
use Rattle.trees.specs.declared.Joiner.TheVariants.{Sequence, Choice}
use Rattle.trees.specs.declared.Postfix.{Postfix}
use Rattle.trees.specs.declared.NodeKind.TheVariants.{Empty, Position, Join, Repeat}
use Rattle.trees.specs.declared.Node.{Node}
use Rattle.trees.specs.Nodes.{node_of}
use Rattle.trees.specs.Listing.{Tree, listing, leaves}
use Rattle.reader.specs.declared.token.Token.{Token}
use Rattle.reader.specs.declared.token.Token.TheVariants.{Open, Close, Bar, Repeat as Postfixed, Atom}
use Rattle.kinds.specs.declared.Atom as atoms
use Rattle.reader.specs.Tokens.{tokens_from}
use Rattle.reader.specs.Machine.{wanted, run}
use Rattle.std.proofs.Math.Option.{none}
use Rattle.reader.specs.declared.records.Group.{Group}
use Rattle.reader.specs.declared.records.Progress.{Progress}
use Rattle.reader.specs.declared.records.Counts.{Counts}
use Rattle.reader.specs.Call.{counts_of}
use Rattle.reader.specs.Desk.{Desk, desk, with_nodes}

-- What the program's own steps do with its memory; no promise to callers speaks of this. Where memory
-- has no place n, a write there leaves it as it is.

-- A joiner of the left operand and what was written last, if there is a left operand: how many nodes
-- there are then, and what the memory holds.
abbrev pub joined_count : ℕ → ℕ → ℕ
joined_count left n = cond (left == 0) n (n + 1)

abbrev pub joined_nodes : Joiner → ℕ → ℕ → List Node → List Node
joined_nodes j left n nodes = cond (left == 0) nodes (slice_set nodes n (node_of (Join j) (left - 1) (n - 1)))

-- The whole pattern that is being read, closed: its last sequence, then its last choice.
abbrev pub pattern_count : Progress → ℕ
pattern_count p = joined_count p.choice (joined_count p.sequence p.nodes)

abbrev pub pattern_nodes : Progress → List Node → List Node
pattern_nodes p nodes =
    joined_nodes Choice p.choice (joined_count p.sequence p.nodes) (joined_nodes Sequence p.sequence p.nodes nodes)

-- What stands in a group, closed: a pattern, or the empty word.
abbrev pub group_count : Progress → Result ℕ Refusal
group_count p =
    cond p.wanting (cond (p.choice == 0) (Ok (p.nodes + 1)) (Err BaseWanted)) (Ok (pattern_count p))

abbrev pub group_nodes : Progress → List Node → List Node
group_nodes p nodes = cond p.wanting (slice_set nodes p.nodes (node_of Empty 0 0)) (pattern_nodes p nodes)

-- Before a base, the pieces read so far become one sequence.
abbrev pub started_progress : Progress → Progress
started_progress p =
    cond p.wanting p
    (record {
      nodes = joined_count p.sequence p.nodes;
      positions = p.positions;
      choice = p.choice;
      sequence = joined_count p.sequence p.nodes;
      wanting = false;
    })

abbrev pub started_nodes : Progress → List Node → List Node
started_nodes p nodes = cond p.wanting nodes (joined_nodes Sequence p.sequence p.nodes nodes)

-- A branch begins, with so many nodes written and such a choice before it.
abbrev pub branch_start : Progress → ℕ → ℕ → Progress
branch_start p n choice = record { nodes = n; positions = p.positions; choice = choice; sequence = 0; wanting = true }

-- A piece has ended, with so many nodes and positions written, behind such a choice and such a sequence.
abbrev pub piece_end : ℕ → ℕ → ℕ → ℕ → Progress
piece_end n positions choice sequence =
    record { nodes = n; positions = positions; choice = choice; sequence = sequence; wanting = false }

-- The progress behind each token; the group records behind `(` and `)`.
abbrev pub opened_progress : ℕ → Progress → Result Progress Refusal
opened_progress groups p = cond (nat_lt groups 32) (Ok (branch_start p (started_progress p).nodes 0)) (Err TooManyGroups)

abbrev pub opened_group : ℕ → Progress → Group
opened_group i p = record { place = i; choice = p.choice; sequence = (started_progress p).sequence }

abbrev pub outer_progress : Group → Progress → Result ℕ Refusal → Result Progress Refusal
outer_progress g p (Ok n) = Ok (piece_end n p.positions g.choice g.sequence)
outer_progress g p (Err why) = Err why

abbrev pub closed_progress : List Group → Progress → Result Progress Refusal
closed_progress [] p = Err NoOpenGroup
closed_progress (g ∷ gs) p = outer_progress g p (group_count p)

abbrev pub outer_groups : List Group → List Group
outer_groups [] = []
outer_groups (g ∷ gs) = gs

abbrev pub barred_progress : Progress → Result Progress Refusal
barred_progress p = cond p.wanting (Err BaseWanted) (Ok (branch_start p (pattern_count p) (pattern_count p)))

abbrev pub postfixed_progress : Progress → Result Progress Refusal
postfixed_progress p =
    cond p.wanting (Err BaseWanted) (Ok (piece_end (p.nodes + 1) p.positions p.choice p.sequence))

abbrev pub postfixed_nodes : Postfix → Progress → List Node → List Node
postfixed_nodes k p nodes = slice_set nodes p.nodes (node_of (Repeat k) (p.nodes - 1) 0)

abbrev pub atom_progress : Progress → Progress
atom_progress p = piece_end ((started_progress p).nodes + 1) (p.positions + 1) p.choice (started_progress p).sequence

abbrev pub atom_nodes : Progress → List Node → List Node
atom_nodes p nodes = slice_set (started_nodes p nodes) (started_progress p).nodes (node_of Position (p.positions + 1) 0)

module _ {C : Type 0} where
  -- One more node; a joiner; the pattern closed; the pieces made one sequence.
  abbrev pub adds : Node → Desk C → Desk C
  adds item d = with_nodes (slice_set d.nodes d.progress.nodes item) (d.progress.nodes + 1) d

  abbrev pub joins : Joiner → ℕ → Desk C → Desk C
  joins j left d = with_nodes (joined_nodes j left d.progress.nodes d.nodes) (joined_count left d.progress.nodes) d

  abbrev pub ends_pattern : Desk C → Desk C
  ends_pattern d = with_nodes (pattern_nodes d.progress d.nodes) (pattern_count d.progress) d

  abbrev pub starts_piece : Desk C → Desk C
  starts_piece d = desk (started_nodes d.progress d.nodes) d.classes d.groups (started_progress d.progress)

  -- What stands in a group closed, if it can be.
  abbrev pub with_count : List Node → Result ℕ Refusal → Desk C → Result (Desk C) Refusal
  with_count nodes (Ok n) d = Ok (with_nodes nodes n d)
  with_count nodes (Err why) d = Err why

  abbrev pub ends_group : Desk C → Result (Desk C) Refusal
  ends_group d = with_count (group_nodes d.progress d.nodes) (group_count d.progress) d

  -- What each token does, the first at place i.
  abbrev pub on_desk : List Node → List C → List Group → Result Progress Refusal → Result (Desk C) Refusal
  on_desk nodes classes groups (Ok p) = Ok (desk nodes classes groups p)
  on_desk nodes classes groups (Err why) = Err why

  abbrev pub opens : ℕ → Desk C → Result (Desk C) Refusal
  opens i d =
      on_desk (started_nodes d.progress d.nodes) d.classes (opened_group i d.progress ∷ d.groups)
      (opened_progress (length d.groups) d.progress)

  abbrev pub closes : Desk C → Result (Desk C) Refusal
  closes d =
      on_desk (group_nodes d.progress d.nodes) d.classes (outer_groups d.groups) (closed_progress d.groups d.progress)

  abbrev pub bars : Desk C → Result (Desk C) Refusal
  bars d = on_desk (pattern_nodes d.progress d.nodes) d.classes d.groups (barred_progress d.progress)

  abbrev pub repeats : Postfix → Desk C → Result (Desk C) Refusal
  repeats k d = on_desk (postfixed_nodes k d.progress d.nodes) d.classes d.groups (postfixed_progress d.progress)

  abbrev pub takes : C → Desk C → Desk C
  takes c d =
      desk (atom_nodes d.progress d.nodes) (slice_set d.classes d.progress.positions c) d.groups (atom_progress d.progress)

  -- One token at place i.
  abbrev pub wrote : ℕ → Token C → Desk C → Result (Desk C) Refusal
  wrote i Open d = opens i d
  wrote i Close d = closes d
  wrote i Bar d = bars d
  wrote i (Postfixed k) d = repeats k d
  wrote i (Atom c) d = Ok (takes c d)

  -- A step ends as it should: on that desk, or with that refusal.
  abbrev pub EndsOn : Result (Desk C) Refusal → Desk C → Result (Unit {0}) Refusal → Type 0
  EndsOn o d (Ok _) = o ≡ Ok d
  EndsOn o d (Err why) = o ≡ Err why

-- The end of a text of n bytes: the counts, when no base is wanted and no group open.
abbrev pub ended : ℕ → List Group → Progress → Result Counts Refused
ended n [] p = cond p.wanting (refused_at BaseWanted n) (Ok (record { nodes = pattern_count p; positions = p.positions }))
ended n (g ∷ gs) p = cond p.wanting (refused_at BaseWanted n) (refused_at UnfinishedGroup g.place)

-- The memory holds the list from its first place on, as far as both go.
abbrev pub Begins : {X : Type 0} → List X → List X → Type 0
Begins slots l = take (length slots) l ≡ take (length l) slots

-- The end of a reading that came to a tree, or to a refusal: the counts and the memory are those of the
-- tree's node list and leaves; or it is that refusal.
pub record TreePictured {C : Type 0} (t : Tree C) (r : Result Counts Refused) (nodes : List Node) (classes : List C) : Type 0 where
  pub counts : r ≡ Ok (counts_of t)
  pub listed : Begins nodes (listing t)
  pub leaves : Begins classes (leaves t)

abbrev pub EndPictured : {C : Type 0} → Result (Tree C) Refused → Result Counts Refused → List Node → List C → Type 0
EndPictured (Ok t) r nodes classes = TreePictured t r nodes classes
EndPictured (Err f) r nodes classes = r ≡ Err f

-- The end of the reading of a text, as far as its size is not looked at.
abbrev pub TextPictured : {C : Type 0} → (List ℕ → ℕ → Result (atoms.Atom C) Refused) → List ℕ → Result Counts Refused → List Node → List C → Type 0
TextPictured reading text r nodes classes =
    EndPictured (run 32 (tokens_from reading text text 0 0).0 (tokens_from reading text text 0 0).1 [] none wanted) r nodes classes

-- A pattern that is read to its end is turned down for its size.
abbrev pub limited_counts : ℕ → Result Counts Refused → Result Counts Refused
limited_counts n (Ok c) = cond (nat_lt 63 c.positions || nat_lt 255 c.nodes) (refused_at PatternTooLarge n) (Ok c)
limited_counts n (Err f) = Err f

-- How many records are in use at the end.
abbrev pub used_by : Result Counts Refused → Counts
used_by (Ok c) = c
used_by (Err f) = record { nodes = 0; positions = 0 }
