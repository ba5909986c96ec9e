use Rattle.std.specs.Prelude.{◌≡◌, ℕ, ◌+◌, ◌<◌, ◌≤◌, List, ◌∷◌, length, drop, ◌≢◌, slice_index, Option, refl}
use Rattle.std.proofs.Common.{ap, ◌∙◌}
use Rattle.std.proofs.lemmas.List.{at_drop_more, at_drop_all}
use Rattle.std.proofs.lemmas.Bool.{ne_eqb}
use Rattle.kinds.specs.Atoms.{no_atom_at}
use Rattle.rounds.specs.declared.symbol.Outcome.{Outcome}
use Rattle.rounds.specs.Reading.{outcome_of_letter, unit_or_none, atom_from, round_reading}

-- The atom at a place.
pub reading_at : (xs : List ℕ) (i b : ℕ) → i < length xs → slice_index xs i ≡ b → round_reading xs i ≡ atom_from (b ∷ drop (i + 1) xs) i
unfolding round_reading
reading_at xs i b h e = rw e at (at_drop_more (λ t. atom_from t i) xs i 0 h)

pub reading_end : (xs : List ℕ) (i : ℕ) → length xs ≤ i → round_reading xs i ≡ no_atom_at i
unfolding round_reading
reading_end xs i h = at_drop_all (λ t. atom_from t i) xs i h

pub atom_none : (b i : ℕ) (rest : List ℕ) → (b ≢ 46) → (b ≢ 91) → (b ≢ 87) → (b ≢ 68) → (b ≢ 76)
    → atom_from (b ∷ rest) i ≡ no_atom_at i
atom_none b i rest dot set w d l = rw (ne_eqb b 46 dot, ne_eqb b 91 set, ne_eqb b 87 w, ne_eqb b 68 d, ne_eqb b 76 l)

pub reading_none : (xs : List ℕ) (i : ℕ) → i < length xs → (slice_index xs i ≢ 46) → (slice_index xs i ≢ 91) → (slice_index xs i ≢ 87)
    → (slice_index xs i ≢ 68) → (slice_index xs i ≢ 76) → round_reading xs i ≡ no_atom_at i
reading_none xs i h dot set w d l = reading_at xs i (slice_index xs i) h refl ∙ atom_none (slice_index xs i) i (drop (i + 1) xs) dot set w d l

-- The atom at a place where neither `.` nor `[` stands, by the outcome that the byte names.
pub reading_letter : (xs : List ℕ) (i : ℕ) (o : Option Outcome) → i < length xs → (slice_index xs i ≢ 46) → (slice_index xs i ≢ 91)
    → outcome_of_letter (slice_index xs i) ≡ o → round_reading xs i ≡ unit_or_none (drop (i + 1) xs) i o
reading_letter xs i o h dot set e =
    reading_at xs i (slice_index xs i) h refl ∙ rw (ne_eqb (slice_index xs i) 46 dot, ne_eqb (slice_index xs i) 91 set) (ap (unit_or_none (drop (i + 1) xs) i) e)
