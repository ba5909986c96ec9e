use Rattle.std.specs.Prelude.{◌≡◌, ℕ, ◌+◌, ◌<◌, ◌≤◌, Bool, ◌||◌, ◌⊎◌, List, length, Ok, Err, Result, ◌==◌}
use Rattle.kinds.specs.declared.Atom.{Atom}
use Rattle.kinds.specs.declared.Refused.{Refused}
use Rattle.kinds.specs.declared.Refusal.{Refusal}
use Rattle.kinds.specs.declared.Refusal.TheVariants.{NoAtom}
use Rattle.kinds.specs.Refusals.{number_of}

-- ( ) | * + ?
abbrev pub Operator : ℕ → Type 0
Operator b = (b ≡ 40) ⊎ ((b ≡ 41) ⊎ ((b ≡ 124) ⊎ ((b ≡ 42) ⊎ ((b ≡ 43) ⊎ (b ≡ 63)))))

abbrev pub is_operator : ℕ → Bool
is_operator b = b == 40 || (b == 41 || (b == 124 || (b == 42 || (b == 43 || b == 63))))

abbrev pub refused_at : {X : Type 0} → Refusal → ℕ → Result X Refused
refused_at why place = Err (record { refusal = why; place = place })

-- No atom begins at the place.
abbrev pub no_atom_at : {X : Type 0} → ℕ → Result X Refused
no_atom_at place = refused_at NoAtom place

-- What every reading at a place within the text is like: an atom has at least one byte and ends
-- within the text; a refusal is one of the five that concern atoms, and its place is within the text.
abbrev pub Within : {C : Type 0} → List ℕ → ℕ → Result (Atom C) Refused → Type 0
Within text i (Ok a) = (1 ≤ a.length) × (i + a.length ≤ length text)
Within text i (Err f) =
    (3 ≤ number_of f.refusal) × (number_of f.refusal ≤ 7) × (i ≤ f.place) × (f.place < length text)
