use Rattle.std.specs.Prelude.{◌≡◌, ℕ, ◌+◌, Bool, true, false, ◌↔◌, List, [], ◌∷◌, length, drop, Ok, Err, Result}
use Rattle.kinds.specs.declared.Atom.{Atom}
use Rattle.kinds.specs.declared.Refused.{Refused}
use Rattle.kinds.specs.declared.Refusal.{Refusal}

-- Behind the `[` of a set, a leading `^` (byte 94) asks for the complement.
abbrev pub NoCaret : List ℕ → Type 0
NoCaret [] = Unit {0}
NoCaret (b ∷ rest) = b ≡ 94 → ⊥

-- `Leads text negated rest`: whether `^` leads the text, and what follows.
pub data Leads : List ℕ → Bool → List ℕ → Type 0 where
  caret : {rest : List ℕ} → Leads (94 ∷ rest) true rest
  straight : {text : List ℕ} → NoCaret text → Leads text false text

-- A kind tells its language of atoms by three relations:
-- `Written text shape rest`, the text begins with an atom of this shape and goes on with the rest;
-- `Faulty text why here`, no atom can be read from the text, for this reason, and the fault is placed
-- where `here` is what remains of the text;
-- `Exact shape class`, the class admits exactly the symbols of the shape.
module _ {Shape C : Type 0} (Written : List ℕ → Shape → List ℕ → Type 0) (Faulty : List ℕ → Refusal → List ℕ → Type 0)
    (Exact : Shape → C → Type 0) where
  -- The atom at a place of a text: it is written there, ends where the rest begins, and has the class
  -- of its shape.
  pub record AtomAt (text : List ℕ) (i : ℕ) (a : Atom C) : Type 0 where
    pub shape : Shape
    pub rest : List ℕ
    pub written : Written (drop i text) shape rest
    pub long : a.length + length rest ≡ length (drop i text)
    pub exact : Exact shape a.class

  -- The fault at a place of a text.
  pub record FaultAt (text : List ℕ) (i : ℕ) (f : Refused) : Type 0 where
    pub here : List ℕ
    pub faulty : Faulty (drop i text) f.refusal here
    pub placed : f.place + length here ≡ i + length (drop i text)

  -- A reading is exactly what the language says: an atom where one is written, and a refusal where
  -- there is that fault.
  pub record ReadAsWritten (text : List ℕ) (i : ℕ) (r : Result (Atom C) Refused) : Type 0 where
    pub accepted : (a : Atom C) → (r ≡ Ok a) ↔ AtomAt text i a
    pub refused : (f : Refused) → (r ≡ Err f) ↔ FaultAt text i f

  -- No other answer is what the language says.
  abbrev pub OnlyReading : List ℕ → ℕ → Result (Atom C) Refused → Type 0
  OnlyReading text i r = (s : Result (Atom C) Refused) → ReadAsWritten text i s → s ≡ r
