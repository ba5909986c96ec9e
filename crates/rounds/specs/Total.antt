use Rattle.std.specs.Prelude.{◌≡◌, ℕ, Bool, ◌⊎◌, List, [], ◌∷◌, ◌≢◌, refl}
use Rattle.std.proofs.Common.{sym, subst, inl, inr}
use Rattle.std.proofs.lemmas.Bool.{cases_eq}
use Rattle.kinds.specs.declared.Refusal.{Refusal}
use Rattle.kinds.specs.Language.{Leads, caret, straight}
use Rattle.kinds.proofs.Language as language
use Rattle.rounds.specs.Reading.{atom_from}
use Rattle.rounds.specs.declared.symbol.Side.{Side}
use Rattle.rounds.specs.declared.symbol.Side.TheVariants.{White, Black, Unplayed}
use Rattle.rounds.specs.declared.symbol.Outcome.{Outcome}
use Rattle.rounds.specs.declared.symbol.Outcome.TheVariants.{Win, Draw, Loss}
use Rattle.rounds.specs.declared.symbol.RoundUnit.{RoundUnit}
use Rattle.rounds.specs.Language.{Letter, win, draw, loss, Narrowing, white, black, unplayed, NoLetter, Spelled, narrowed, whole, Units, none, more, Shape, Written, dot, unit, set, Faulty, ended, no_atom, no_unit, cut_set, no_units, Exact}

-- Every text begins with an atom or has a fault.

data LetterOrNot (b : ℕ) : Type 0 where
  letter : {o : Outcome} → Letter b o → LetterOrNot b
  no_letter : NoLetter b → LetterOrNot b

none_of_letters : {b : ℕ} → (b ≢ 87) → (b ≢ 68) → (b ≢ 76) → (o : Outcome) → Letter b o → ⊥
none_of_letters w d l o win = w refl
none_of_letters w d l o draw = d refl
none_of_letters w d l o loss = l refl

letter_of : (b : ℕ) → LetterOrNot b
letter_of b = go (cases_eq b 87) (cases_eq b 68) (cases_eq b 76)
  where
    go : (b ≡ 87) ⊎ (b ≢ 87) → (b ≡ 68) ⊎ (b ≢ 68) → (b ≡ 76) ⊎ (b ≢ 76) → LetterOrNot b
    go (inl e) d l = letter (subst (λ m. Letter m Win) (sym e) win)
    go (inr w) (inl e) l = letter (subst (λ m. Letter m Draw) (sym e) draw)
    go (inr w) (inr d) (inl e) = letter (subst (λ m. Letter m Loss) (sym e) loss)
    go (inr w) (inr d) (inr l) = no_letter (none_of_letters w d l)

data NarrowingOrNot (b : ℕ) : Type 0 where
  side : {s : Side} → Narrowing b s → NarrowingOrNot b
  no_side : ((s : Side) → Narrowing b s → ⊥) → NarrowingOrNot b

none_of_sides : {b : ℕ} → (b ≢ 119) → (b ≢ 98) → (b ≢ 117) → (s : Side) → Narrowing b s → ⊥
none_of_sides w k u s white = w refl
none_of_sides w k u s black = k refl
none_of_sides w k u s unplayed = u refl

narrowing_of : (b : ℕ) → NarrowingOrNot b
narrowing_of b = go (cases_eq b 119) (cases_eq b 98) (cases_eq b 117)
  where
    go : (b ≡ 119) ⊎ (b ≢ 119) → (b ≡ 98) ⊎ (b ≢ 98) → (b ≡ 117) ⊎ (b ≢ 117) → NarrowingOrNot b
    go (inl e) k u = side (subst (λ m. Narrowing m White) (sym e) white)
    go (inr w) (inl e) u = side (subst (λ m. Narrowing m Black) (sym e) black)
    go (inr w) (inr k) (inl e) = side (subst (λ m. Narrowing m Unplayed) (sym e) unplayed)
    go (inr w) (inr k) (inr u) = no_side (none_of_sides w k u)

-- Where no further unit begins.
data Stop : List ℕ → Type 0 where
  at_end : Stop []
  at_close : {rest : List ℕ} → Stop (93 ∷ rest)
  at_other : {b : ℕ} {rest : List ℕ} → NoLetter b → (b ≢ 93) → Stop (b ∷ rest)

-- All units with which a text begins.
data AllUnits (t : List ℕ) : Type 0 where
  all_units : {us : List RoundUnit} {here : List ℕ} → Units t us here → Stop here → AllUnits t

add_unit : {t after : List ℕ} {u : RoundUnit} → Spelled t u after → AllUnits after → AllUnits t
add_unit s (all_units us stop) = all_units (more s us) stop

stop_at : (b : ℕ) (rest : List ℕ) → NoLetter b → (b ≡ 93) ⊎ (b ≢ 93) → AllUnits (b ∷ rest)
stop_at b rest ne (inl e) = all_units none (subst (λ m. Stop (m ∷ rest)) (sym e) at_close)
stop_at b rest ne (inr k) = all_units none (at_other ne k)

last_unit : (b : ℕ) → LetterOrNot b → AllUnits (b ∷ [])
last_unit b (letter l) = add_unit (whole l tt) (all_units none at_end)
last_unit b (no_letter ne) = stop_at b [] ne (cases_eq b 93)

next_unit : (b c : ℕ) (rest : List ℕ) → LetterOrNot b → NarrowingOrNot c → AllUnits (c ∷ rest) → AllUnits rest → AllUnits (b ∷ c ∷ rest)
next_unit b c rest (letter l) (side s) one two = add_unit (narrowed l s) two
next_unit b c rest (letter l) (no_side ne) one two = add_unit (whole l ne) one
next_unit b c rest (no_letter ne) s one two = stop_at b (c ∷ rest) ne (cases_eq b 93)

units_of : (t : List ℕ) → AllUnits t
units_of [] = all_units none at_end
units_of (b ∷ []) = last_unit b (letter_of b)
units_of (b ∷ c ∷ rest) = next_unit b c rest (letter_of b) (narrowing_of c) (units_of (c ∷ rest)) (units_of rest)

data Led (t : List ℕ) : Type 0 where
  led : {negated : Bool} {start : List ℕ} → Leads t negated start → Led t

lead_of : (t : List ℕ) → Led t
lead_of [] = led (straight tt)
lead_of (b ∷ rest) = go (cases_eq b 94)
  where
    go : (b ≡ 94) ⊎ (b ≢ 94) → Led (b ∷ rest)
    go (inl e) = subst (λ m. Led (m ∷ rest)) (sym e) (led caret)
    go (inr ne) = led (straight ne)

-- What a text begins with.
abbrev Begins : List ℕ → Type 0
Begins t = language.Outcome Written Faulty Exact atom_from t

written : {t rest : List ℕ} {shape : Shape} → Written t shape rest → Begins t
written {rest = rest} {shape = shape} w = inl (shape, rest, w)

faulty : {t here : List ℕ} {why : Refusal} → Faulty t why here → Begins t
faulty {here = here} {why = why} w = inr (why, here, w)

set_closed : {inside start rest : List ℕ} {negated : Bool} {us : List RoundUnit} → Leads inside negated start → Units start us (93 ∷ rest)
    → Begins (91 ∷ inside)
set_closed l none = faulty (no_units l)
set_closed l (more s us) = written (set l (more s us))

set_begins : {inside start : List ℕ} {negated : Bool} → Leads inside negated start → AllUnits start → Begins (91 ∷ inside)
set_begins l (all_units us at_end) = faulty (cut_set l us)
set_begins l (all_units us at_close) = set_closed l us
set_begins l (all_units us (at_other ne k)) = faulty (no_unit l us ne k)

set_of : (inside : List ℕ) → Led inside → Begins (91 ∷ inside)
set_of inside (led {start = start} l) = set_begins l (units_of start)

unit_begins : (b : ℕ) {o : Outcome} (rest : List ℕ) → Letter b o → Begins (b ∷ rest)
unit_begins b [] l = written (unit (whole l tt))
unit_begins b (c ∷ rest) l = go (narrowing_of c)
  where
    go : NarrowingOrNot c → Begins (b ∷ c ∷ rest)
    go (side s) = written (unit (narrowed l s))
    go (no_side ne) = written (unit (whole l ne))

pub begins : (t : List ℕ) → Begins t
begins [] = faulty ended
begins (b ∷ rest) = go (letter_of b) (cases_eq b 46) (cases_eq b 91)
  where
    go : LetterOrNot b → (b ≡ 46) ⊎ (b ≢ 46) → (b ≡ 91) ⊎ (b ≢ 91) → Begins (b ∷ rest)
    go (letter l) d s = unit_begins b rest l
    go (no_letter ne) (inl e) s = subst (λ m. Begins (m ∷ rest)) (sym e) (written dot)
    go (no_letter ne) (inr d) (inl e) = subst (λ m. Begins (m ∷ rest)) (sym e) (set_of rest (lead_of rest))
    go (no_letter ne) (inr d) (inr s) = faulty (no_atom (record { no_letter = ne; no_dot = d; no_set = s }))
