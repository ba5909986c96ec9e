use Rattle.std.specs.Prelude.{◌≡◌, ℕ, ◌<◌, Bool, true, false, cond, not, ◌||◌, List, [], ◌∷◌, Result, ◌≢◌}
use Rattle.kinds.specs.declared.Atom.{Atom}
use Rattle.kinds.specs.declared.Refused.{Refused}
use Rattle.kinds.specs.declared.Refusal.{Refusal}
use Rattle.kinds.specs.declared.Refusal.TheVariants.{NoAtom, UnfinishedSet, EmptySet}
use Rattle.kinds.specs.Language as language
use Rattle.kinds.specs.Language.{Leads}
use Rattle.rounds.specs.declared.symbol.Side.{Side}
use Rattle.rounds.specs.declared.symbol.Side.TheVariants.{White, Black, Unplayed}
use Rattle.rounds.specs.declared.symbol.Outcome.{Outcome}
use Rattle.rounds.specs.declared.symbol.Outcome.TheVariants.{Win, Draw, Loss}
use Rattle.rounds.specs.declared.symbol.RoundUnit.{RoundUnit}
use Rattle.rounds.specs.declared.class.RoundClass.{RoundClass}
use Rattle.rounds.specs.Symbols.{on_any_side, on_side, in_unit}
use Rattle.rounds.specs.Class.{has_round, Nine}

-- The atoms of the language of rounds, as relations between a text, what it begins with, and the rest
-- of the text. The bytes named by number: 46 `.`, 68 `D`, 76 `L`, 87 `W`, 91 `[`, 93 `]`, 94 `^`,
-- 98 `b`, 117 `u`, 119 `w`.

-- `W`, `D` and `L` name an outcome.
pub data Letter : ℕ → Outcome → Type 0 where
  win : Letter 87 Win
  draw : Letter 68 Draw
  loss : Letter 76 Loss

-- `w`, `b` and `u` behind such a letter name a side.
pub data Narrowing : ℕ → Side → Type 0 where
  white : Narrowing 119 White
  black : Narrowing 98 Black
  unplayed : Narrowing 117 Unplayed

abbrev pub NoLetter : ℕ → Type 0
NoLetter b = (outcome : Outcome) → Letter b outcome → ⊥

abbrev pub NoNarrowing : List ℕ → Type 0
NoNarrowing [] = Unit {0}
NoNarrowing (b ∷ rest) = (side : Side) → Narrowing b side → ⊥

-- A unit: a letter with the side's letter behind it, or a letter with none.
pub data Spelled : List ℕ → RoundUnit → List ℕ → Type 0 where
  narrowed : {b c : ℕ} {outcome : Outcome} {side : Side} {rest : List ℕ} → Letter b outcome → Narrowing c side
      → Spelled (b ∷ c ∷ rest) (on_side outcome side) rest
  whole : {b : ℕ} {outcome : Outcome} {rest : List ℕ} → Letter b outcome → NoNarrowing rest
      → Spelled (b ∷ rest) (on_any_side outcome) rest

-- `Units text units rest`: the text begins with these units and goes on with the rest.
pub data Units : List ℕ → List RoundUnit → List ℕ → Type 0 where
  none : {rest : List ℕ} → Units rest [] rest
  more : {text after rest : List ℕ} {unit : RoundUnit} {units : List RoundUnit} → Spelled text unit after
      → Units after units rest → Units text (unit ∷ units) rest

-- What an atom says of rounds.
pub data Shape : Type 0 where
  any : Shape
  only : RoundUnit → Shape
  among : List RoundUnit → Shape
  besides : List RoundUnit → Shape

abbrev pub in_units : List RoundUnit → ℕ → Bool
in_units [] n = false
in_units (unit ∷ units) n = in_unit unit n || in_units units n

-- Whether a shape admits the round of a number.
abbrev pub admitted_by : Shape → ℕ → Bool
admitted_by any n = true
admitted_by (only unit) n = in_unit unit n
admitted_by (among units) n = in_units units n
admitted_by (besides units) n = not (in_units units n)

abbrev pub set_shape : Bool → List RoundUnit → Shape
set_shape negated units = cond negated (besides units) (among units)

-- `Written text shape rest`: the text begins with an atom of this shape and goes on with the rest.
pub data Written : List ℕ → Shape → List ℕ → Type 0 where
  dot : {rest : List ℕ} → Written (46 ∷ rest) any rest
  unit : {text rest : List ℕ} {u : RoundUnit} → Spelled text u rest → Written text (only u) rest
  set : {inside start rest : List ℕ} {negated : Bool} {u : RoundUnit} {units : List RoundUnit} → Leads inside negated start
      → Units start (u ∷ units) (93 ∷ rest) → Written (91 ∷ inside) (set_shape negated (u ∷ units)) rest

-- A byte with which no atom begins.
pub record NoBeginning (b : ℕ) : Type 0 where
  pub no_letter : NoLetter b
  pub no_dot : b ≡ 46 → ⊥
  pub no_set : b ≡ 91 → ⊥

-- `Faulty text why here`: no atom can be read from the text, for this reason, and the fault is placed
-- where `here` is what remains of the text.
pub data Faulty : List ℕ → Refusal → List ℕ → Type 0 where
  ended : Faulty [] NoAtom []
  no_atom : {b : ℕ} {rest : List ℕ} → NoBeginning b → Faulty (b ∷ rest) NoAtom (b ∷ rest)
  -- behind whole units stands a byte that neither begins another nor closes the set
  no_unit : {inside start rest : List ℕ} {negated : Bool} {units : List RoundUnit} {b : ℕ} → Leads inside negated start
      → Units start units (b ∷ rest) → NoLetter b → (b ≢ 93) → Faulty (91 ∷ inside) NoAtom (b ∷ rest)
  cut_set : {inside start : List ℕ} {negated : Bool} {units : List RoundUnit} → Leads inside negated start
      → Units start units [] → Faulty (91 ∷ inside) UnfinishedSet (91 ∷ inside)
  no_units : {inside rest : List ℕ} {negated : Bool} → Leads inside negated (93 ∷ rest)
      → Faulty (91 ∷ inside) EmptySet (91 ∷ inside)

-- The class admits exactly the rounds of the shape.
pub record Exact (shape : Shape) (c : RoundClass) : Type 0 where
  pub nine : Nine c
  pub members : (n : ℕ) → n < 9 → has_round c n ≡ admitted_by shape n

-- A reading is exactly what the language of rounds says.
abbrev pub ReadAsWritten : List ℕ → ℕ → Result (Atom RoundClass) Refused → Type 0
ReadAsWritten text i r = language.ReadAsWritten Written Faulty Exact text i r

-- No other answer is what the language of rounds says.
abbrev pub OnlyReading : List ℕ → ℕ → Result (Atom RoundClass) Refused → Type 0
OnlyReading text i r = language.OnlyReading Written Faulty Exact text i r
