use Rattle.std.specs.Prelude.{◌≡◌, ℕ, ◌<◌, ◌≤◌, Bool, false, cond, not, ◌||◌, List, [], ◌∷◌, Result, ◌==◌, ◌≢◌}
use Rattle.kinds.specs.declared.Atom.{Atom}
use Rattle.kinds.specs.declared.Refused.{Refused}
use Rattle.kinds.specs.declared.Refusal.{Refusal}
use Rattle.kinds.specs.declared.Refusal.TheVariants.{NoAtom, UnfinishedEscape, UnfinishedSet, BackwardRange, EmptySet}
use Rattle.kinds.specs.Atoms.{Operator}
use Rattle.kinds.specs.Language as language
use Rattle.kinds.specs.Language.{Leads}
use Rattle.byte_kind.specs.declared.class.ByteClass.{ByteClass}
use Rattle.byte_kind.specs.Class.{has_byte, between, Words}

-- The atoms of the byte language, as relations between a text, what it begins with, and the rest of
-- the text. The bytes named by number: 45 `-`, 46 `.`, 91 `[`, 92 `\`, 93 `]`, 94 `^`.

-- In a set a byte stands for itself, or is taken literally after `\`.
pub data Spelled : List ℕ → ℕ → List ℕ → Type 0 where
  plain : {b : ℕ} {rest : List ℕ} → (b ≢ 92) → (b ≢ 93) → Spelled (b ∷ rest) b rest
  escaped : {b : ℕ} {rest : List ℕ} → Spelled (92 ∷ b ∷ rest) b rest

-- After an item's first byte, `-` makes a range when the byte after it is not `]`.
abbrev pub Ranges : List ℕ → Type 0
Ranges [] = ⊥
Ranges (b ∷ []) = ⊥
Ranges (b ∷ c ∷ rest) = (b ≡ 45) × (c ≢ 93)

-- An item of a set: the bytes from a first to a last one, both included.
pub record Item : Type 0 where
  pub first : ℕ
  pub last : ℕ

-- `Items text items rest`: the text begins with these items and goes on with the rest.
pub data Items : List ℕ → List Item → List ℕ → Type 0 where
  none : {rest : List ℕ} → Items rest [] rest
  single : {text after rest : List ℕ} {b : ℕ} {items : List Item} → Spelled text b after → (Ranges after → ⊥)
      → Items after items rest → Items text (record { first = b; last = b } ∷ items) rest
  range : {text after next rest : List ℕ} {b c : ℕ} {items : List Item} → Spelled text b (45 ∷ after)
      → Spelled after c next → b ≤ c → Items next items rest → Items text (record { first = b; last = c } ∷ items) rest

-- What an atom says of bytes.
pub data Shape : Type 0 where
  any : Shape
  only : ℕ → Shape
  among : List Item → Shape
  besides : List Item → Shape

abbrev pub in_items : List Item → ℕ → Bool
in_items [] b = false
in_items (item ∷ items) b = between item.first item.last b || in_items items b

abbrev pub admitted_by : Shape → ℕ → Bool
admitted_by any b = not (b == 10)
admitted_by (only c) b = b == c
admitted_by (among items) b = in_items items b
admitted_by (besides items) b = not (in_items items b)

abbrev pub set_shape : Bool → List Item → Shape
set_shape negated items = cond negated (besides items) (among items)

-- A byte that stands for itself outside sets.
pub record Ordinary (b : ℕ) : Type 0 where
  pub no_operator : Operator b → ⊥
  pub no_dot : b ≡ 46 → ⊥
  pub no_set : b ≡ 91 → ⊥
  pub no_escape : b ≡ 92 → ⊥

-- `Written text shape rest`: the text begins with an atom of this shape and goes on with the rest.
pub data Written : List ℕ → Shape → List ℕ → Type 0 where
  dot : {rest : List ℕ} → Written (46 ∷ rest) any rest
  escape : {b : ℕ} {rest : List ℕ} → Written (92 ∷ b ∷ rest) (only b) rest
  set : {inside start rest : List ℕ} {negated : Bool} {item : Item} {items : List Item} → Leads inside negated start
      → Items start (item ∷ items) (93 ∷ rest) → Written (91 ∷ inside) (set_shape negated (item ∷ items)) rest
  ordinary : {b : ℕ} {rest : List ℕ} → Ordinary b → Written (b ∷ rest) (only b) rest

-- The text ends where the next item, or its end, is to be read.
pub data Cut : List ℕ → Type 0 where
  at_item : Cut []
  at_escape : Cut (92 ∷ [])
  at_last : {text : List ℕ} {b : ℕ} → Spelled text b (45 ∷ 92 ∷ []) → Cut text

-- `Faulty text why here`: no atom can be read from the text, for this reason, and the fault is placed
-- where `here` is what remains of the text.
pub data Faulty : List ℕ → Refusal → List ℕ → Type 0 where
  ended : Faulty [] NoAtom []
  operator : {b : ℕ} {rest : List ℕ} → Operator b → Faulty (b ∷ rest) NoAtom (b ∷ rest)
  cut_escape : Faulty (92 ∷ []) UnfinishedEscape (92 ∷ [])
  cut_set : {inside start here : List ℕ} {negated : Bool} {items : List Item} → Leads inside negated start
      → Items start items here → Cut here → Faulty (91 ∷ inside) UnfinishedSet (91 ∷ inside)
  backward : {inside start here after next : List ℕ} {negated : Bool} {items : List Item} {b c : ℕ}
      → Leads inside negated start → Items start items here → Spelled here b (45 ∷ after) → Spelled after c next → c < b
      → Faulty (91 ∷ inside) BackwardRange here
  no_items : {inside rest : List ℕ} {negated : Bool} → Leads inside negated (93 ∷ rest)
      → Faulty (91 ∷ inside) EmptySet (91 ∷ inside)

-- The class admits exactly the bytes of the shape.
pub record Exact (shape : Shape) (c : ByteClass) : Type 0 where
  pub words : Words c
  pub members : (b : ℕ) → b < 256 → has_byte c b ≡ admitted_by shape b

-- A reading is exactly what the language of bytes says.
abbrev pub ReadAsWritten : List ℕ → ℕ → Result (Atom ByteClass) Refused → Type 0
ReadAsWritten text i r = language.ReadAsWritten Written Faulty Exact text i r

-- No other answer is what the language of bytes says.
abbrev pub OnlyReading : List ℕ → ℕ → Result (Atom ByteClass) Refused → Type 0
OnlyReading text i r = language.OnlyReading Written Faulty Exact text i r
