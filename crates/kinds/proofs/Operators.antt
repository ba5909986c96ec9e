use Rattle.std.proofs.Common.{◌≡◌, ℕ, true, false, ◌⊎◌, inl, inr, arith}
use Rattle.std.proofs.lemmas.Bool.{cases_Bool, both_ways}
use Rattle.std.proofs.lemmas.Bool.Decides.{nat_tests}
use Rattle.kinds.specs.Atoms.{Operator, is_operator}

-- The test for operator bytes tells them.

pub operator_is : (b : ℕ) → Operator b → is_operator b ≡ true
operator_is b h = grind (arith, nat_tests)

pub operator_from : (b : ℕ) → is_operator b ≡ true → Operator b
operator_from b e = grind (arith, nat_tests)

pub not_operator : (b : ℕ) → (Operator b → ⊥) → is_operator b ≡ false
not_operator b n = grind (arith, nat_tests)

pub cases_operator : (b : ℕ) → Operator b ⊎ (Operator b → ⊥)
cases_operator b = go (cases_Bool (is_operator b))
  where
    go : (is_operator b ≡ true) ⊎ (is_operator b ≡ false) → Operator b ⊎ (Operator b → ⊥)
    go (inl e) = inl (operator_from b e)
    go (inr e) = inr (λ o. both_ways (is_operator b) e (operator_is b o))
