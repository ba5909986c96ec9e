use Rattle.std.specs.Prelude.{◌≡◌, ℕ, ◌<◌, ◌≤◌, Bool, false, ◌&&◌, ◌⊎◌, nat_lt}
use Rattle.std.proofs.Common.{sym, ◌∙◌, ap, inl, inr, arith}
use Rattle.std.proofs.lemmas.Bool.{lt-ltb, le-ltb, cases_lt}
use Rattle.sets.proofs.NumberSets.{set_same, set_of-words, set_of-has, has-no_number, no_number-words}
use Rattle.rounds.specs.declared.class.RoundClass.{RoundClass}
use Rattle.rounds.specs.Class.{has_round, class_of, empty_class, Nine}

-- Classes of the nine rounds that have the same rounds are equal.
pub class_same : (c d : RoundClass) → Nine c → Nine d → ((n : ℕ) → n < 9 → has_round c n ≡ has_round d n) → c ≡ d
class_same c d v w same = ap (λ s. record { rounds = s }) (set_same 1 c.rounds d.rounds v.words w.words (λ n h. go n h (cases_lt n 9)))
  where
    go : (n : ℕ) → n < 64 → (n < 9) ⊎ (9 ≤ n) → has_round c n ≡ has_round d n
    go n h (inl l) = same n l
    go n h (inr l) = v.no_more n l h ∙ sym (w.no_more n l h)

-- The class of a check is one of the nine rounds, and has exactly those that pass it.
pub class_of-nine : (f : ℕ → Bool) → Nine (class_of f)
class_of-nine f =
    record {
      words = set_of-words 1 (λ n. nat_lt n 9 && f n);
      no_more = λ n l h. set_of-has 1 (λ n. nat_lt n 9 && f n) n h ∙ rw (le-ltb n 9 l);
    }

pub class_of-has : (f : ℕ → Bool) (n : ℕ) → n < 9 → has_round (class_of f) n ≡ f n
class_of-has f n h = set_of-has 1 (λ n. nat_lt n 9 && f n) n (omega arith) ∙ rw (lt-ltb n 9 h)

-- Checks that agree on all rounds have one class.
pub class_of-same : (f g : ℕ → Bool) → ((n : ℕ) → n < 9 → f n ≡ g n) → class_of f ≡ class_of g
class_of-same f g same =
    class_same (class_of f) (class_of g) (class_of-nine f) (class_of-nine g)
    (λ n h. class_of-has f n h ∙ same n h ∙ sym (class_of-has g n h))

pub empty-nine : Nine empty_class
empty-nine = record { words = no_number-words 1; no_more = λ n l h. has-no_number 1 n }

pub empty-has : (n : ℕ) → has_round empty_class n ≡ false
empty-has n = has-no_number 1 n
