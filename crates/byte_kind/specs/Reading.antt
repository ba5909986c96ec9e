use Rattle.std.specs.Prelude.{ℕ, cond, List, [], ◌∷◌, drop, Ok, Result, ◌==◌, nat_lt}
use Rattle.kinds.specs.declared.Atom.{Atom}
use Rattle.kinds.specs.declared.Refused.{Refused}
use Rattle.kinds.specs.declared.Refusal.TheVariants.{UnfinishedEscape, BackwardRange, EmptySet}
use Rattle.kinds.specs.Atoms.{refused_at, no_atom_at, is_operator}
use Rattle.byte_kind.specs.declared.class.ByteClass.{ByteClass}
use Rattle.byte_kind.specs.declared.set.SetState.{SetState}
use Rattle.byte_kind.specs.declared.set.SetState.TheVariants.{Start, Between, Escape, First, Dash, LastEscape}
use Rattle.byte_kind.specs.declared.set.Items.{Items}
use Rattle.std.specs.declared.ops.ControlFlow.TheVariants.{Continue, Break}
use Rattle.kinds.specs.Sets as sets
use Rattle.kinds.specs.Sets.{Turn}
use Rattle.byte_kind.specs.Class.{ranged, others, empty_class, only_class}

-- What the program computes: the set reader as a machine, one byte a turn.

-- The set goes on, or is closed.
abbrev pub on : SetState → ByteClass → Turn Items ByteClass
on state c = Ok (Continue (record { state = state; class = c }))

abbrev pub closed : ByteClass → Turn Items ByteClass
closed c = Ok (Break c)

abbrev pub none_so_far : Items
none_so_far = record { state = Start; class = empty_class }

-- A byte that begins an item.
abbrev pub begin_item : ByteClass → ℕ → ℕ → Turn Items ByteClass
begin_item c place b = cond (b == 92) (on (Escape place) c) (on (First b place) c)

-- A byte that ends a range.
abbrev pub end_range : ByteClass → ℕ → ℕ → ℕ → Turn Items ByteClass
end_range c first at b = cond (nat_lt b first) (refused_at BackwardRange at) (on Between (ranged c first b))

abbrev pub turn_in : SetState → ByteClass → ℕ → ℕ → ℕ → Turn Items ByteClass
turn_in Start c bracket place b = cond (b == 93) (refused_at EmptySet bracket) (begin_item c place b)
turn_in Between c bracket place b = cond (b == 93) (closed c) (begin_item c place b)
turn_in (Escape at) c bracket place b = on (First b at) c
turn_in (First first at) c bracket place b =
    cond (b == 45) (on (Dash first at) c)
    (cond (b == 93) (closed (ranged c first first)) (begin_item (ranged c first first) place b))
turn_in (Dash first at) c bracket place b =
    cond (b == 93) (closed (ranged (ranged c first first) 45 45))
    (cond (b == 92) (on (LastEscape first at) c) (end_range c first at b))
turn_in (LastEscape first at) c bracket place b = end_range c first at b

-- The turn that a byte makes, by the places of the `[` and of the byte.
abbrev pub turn_of : Items → ℕ → ℕ → ℕ → Turn Items ByteClass
turn_of items bracket place b = turn_in items.state items.class bracket place b

-- Behind the `[` at a place.
abbrev pub set_from : List ℕ → ℕ → Result (Atom ByteClass) Refused
set_from rest i = sets.set_from none_so_far turn_of others rest i

-- Behind the `\` at a place.
abbrev pub escape_from : List ℕ → ℕ → Result (Atom ByteClass) Refused
escape_from [] i = refused_at UnfinishedEscape i
escape_from (b ∷ rest) i = Ok (record { class = only_class b; length = 2 })

abbrev pub atom_from : List ℕ → ℕ → Result (Atom ByteClass) Refused
atom_from [] i = no_atom_at i
atom_from (b ∷ rest) i =
    cond (b == 46) (Ok (record { class = others (only_class 10); length = 1 }))
    (cond (b == 92) (escape_from rest i)
    (cond (b == 91) (set_from rest i)
    (cond (is_operator b) (no_atom_at i) (Ok (record { class = only_class b; length = 1 })))))

-- The atom at a place of a text, or why there is none.
unfoldable pub byte_reading : List ℕ → ℕ → Result (Atom ByteClass) Refused
byte_reading text i = atom_from (drop i text) i
