use Rattle.std.specs.Prelude.{ℕ, cond, List, [], ◌∷◌, drop, Some, None, Option, Ok, Result, ◌==◌}
use Rattle.std.specs.declared.ops.ControlFlow.TheVariants.{Continue, Break}
use Rattle.kinds.specs.declared.Atom.{Atom}
use Rattle.kinds.specs.declared.Refused.{Refused}
use Rattle.kinds.specs.declared.Refusal.TheVariants.{EmptySet}
use Rattle.kinds.specs.Atoms.{refused_at, no_atom_at}
use Rattle.kinds.specs.Sets as sets
use Rattle.kinds.specs.Sets.{Turn}
use Rattle.rounds.specs.declared.symbol.Side.{Side}
use Rattle.rounds.specs.declared.symbol.Side.TheVariants.{White, Black, Unplayed}
use Rattle.rounds.specs.declared.symbol.Outcome.{Outcome}
use Rattle.rounds.specs.declared.symbol.Outcome.TheVariants.{Win, Draw, Loss}
use Rattle.rounds.specs.declared.class.RoundClass.{RoundClass}
use Rattle.rounds.specs.declared.set.SetState.{SetState}
use Rattle.rounds.specs.declared.set.SetState.TheVariants.{Start, Between, Letter}
use Rattle.rounds.specs.declared.set.Units.{Units}
use Rattle.rounds.specs.Symbols.{on_any_side, on_side}
use Rattle.rounds.specs.Class.{with_unit, others, empty_class, full_class}

-- What the program computes: the set reader as a machine, one byte a turn.

-- The outcome that a letter names, and the side that a letter behind it names.
abbrev pub outcome_of_letter : ℕ → Option Outcome
outcome_of_letter b = cond (b == 87) (Some Win) (cond (b == 68) (Some Draw) (cond (b == 76) (Some Loss) None))

abbrev pub side_of_letter : ℕ → Option Side
side_of_letter b = cond (b == 119) (Some White) (cond (b == 98) (Some Black) (cond (b == 117) (Some Unplayed) None))

-- The set goes on, or is closed.
abbrev pub on : SetState → RoundClass → Turn Units RoundClass
on state c = Ok (Continue (record { state = state; class = c }))

abbrev pub closed : RoundClass → Turn Units RoundClass
closed c = Ok (Break c)

abbrev pub none_so_far : Units
none_so_far = record { state = Start; class = empty_class }

-- The set goes on behind a letter; a byte that names no outcome begins nothing.
abbrev pub with_letter : RoundClass → ℕ → Option Outcome → Turn Units RoundClass
with_letter c place None = no_atom_at place
with_letter c place (Some outcome) = on (Letter outcome) c

abbrev pub begin_unit : RoundClass → ℕ → ℕ → Turn Units RoundClass
begin_unit c place b = with_letter c place (outcome_of_letter b)

-- The units so far, where a letter that has not been narrowed is a unit of its own.
abbrev pub units_so_far : SetState → RoundClass → RoundClass
units_so_far Start c = c
units_so_far Between c = c
units_so_far (Letter outcome) c = with_unit c (on_any_side outcome)

-- A byte behind a letter.
abbrev pub behind_letter : Outcome → RoundClass → ℕ → ℕ → Option Side → Turn Units RoundClass
behind_letter outcome c place b (Some side) = on Between (with_unit c (on_side outcome side))
behind_letter outcome c place b None = begin_unit (with_unit c (on_any_side outcome)) place b

abbrev pub turn_in : SetState → RoundClass → ℕ → ℕ → ℕ → Turn Units RoundClass
turn_in Start c bracket place b = cond (b == 93) (refused_at EmptySet bracket) (begin_unit c place b)
turn_in Between c bracket place b = cond (b == 93) (closed c) (begin_unit c place b)
turn_in (Letter outcome) c bracket place b =
    cond (b == 93) (closed (with_unit c (on_any_side outcome))) (behind_letter outcome c place b (side_of_letter b))

-- The turn that a byte makes, by the places of the `[` and of the byte.
abbrev pub turn_of : Units → ℕ → ℕ → ℕ → Turn Units RoundClass
turn_of units bracket place b = turn_in units.state units.class bracket place b

-- Behind the `[` at a place.
abbrev pub set_from : List ℕ → ℕ → Result (Atom RoundClass) Refused
set_from rest i = sets.set_from none_so_far turn_of others rest i

-- The atom of one unit.
abbrev pub unit_atom : Outcome → Option Side → Atom RoundClass
unit_atom outcome None = record { class = with_unit empty_class (on_any_side outcome); length = 1 }
unit_atom outcome (Some side) = record { class = with_unit empty_class (on_side outcome side); length = 2 }

-- Behind a letter outside sets.
abbrev pub unit_from : Outcome → List ℕ → Atom RoundClass
unit_from outcome [] = unit_atom outcome None
unit_from outcome (b ∷ rest) = unit_atom outcome (side_of_letter b)

abbrev pub unit_or_none : List ℕ → ℕ → Option Outcome → Result (Atom RoundClass) Refused
unit_or_none rest i None = no_atom_at i
unit_or_none rest i (Some outcome) = Ok (unit_from outcome rest)

abbrev pub atom_from : List ℕ → ℕ → Result (Atom RoundClass) Refused
atom_from [] i = no_atom_at i
atom_from (b ∷ rest) i =
    cond (b == 46) (Ok (record { class = full_class; length = 1 }))
    (cond (b == 91) (set_from rest i) (unit_or_none rest i (outcome_of_letter b)))

-- The atom at a place of a text, or why there is none.
unfoldable pub round_reading : List ℕ → ℕ → Result (Atom RoundClass) Refused
round_reading text i = atom_from (drop i text) i
