use Rattle.std.proofs.Common.{◌≡◌, ℕ, ◌+◌, ◌-◌, ◌<◌, ◌≤◌, true, false, Some, None, MatchOption, subst, sym, arith, rules, tests}
use Rattle.std.specs.Option.{unwrap_or}
use Rattle.std.specs.declared.option.Option.{Option}
use Rattle.std.proofs.lemmas.Iterator.{first_from_Range}
use Rattle.byte_kind.specs.declared.class.ByteClass.{ByteClass}
use Rattle.byte_kind.specs.Class.{has_byte}
use Rattle.prizes.specs.Runs.{RunEnd}
use Rattle.prizes.proofs.shown.run_end.Goals as goal

module _ (class : ByteClass) (first : ℕ) where
  -- Every byte that follows one from the first on, up to a last one, is in the class.
  abbrev Followed : ℕ → Type 0
  Followed last = (k : ℕ) → first ≤ k → k < last → has_byte class (k + 1) ≡ true

  all_to : (last : ℕ) → Followed last → (b : ℕ) → first < b → b ≤ last → has_byte class b ≡ true
  all_to last followed b low high =
      let next : b - 1 + 1 ≡ b = omega (arith, low) in
      subst (λ k. has_byte class k ≡ true) next (followed (b - 1) (omega (arith, low)) (omega (arith, low, high)))

  ended : (r : Option ℕ) → first < 256
      → MatchOption r (Followed 255) (λ i. (first ≤ i) × (i < 255) × (has_byte class (i + 1) ≡ false) × Followed i)
      → RunEnd class first (unwrap_or r 255)
  ended None fits h = record { behind = omega (arith, fits); all = all_to 255 h; ends = λ low. absurd (omega (arith, low)) }
  ended (Some i) fits h = record { behind = h.0; all = all_to i h.3; ends = λ _. h.2 }

pub returns : goal.returns
returns c =
    let class = c.args.class in
    let first = c.args.first in
    let found = first_from_Range _ _ _ _ (λ k. has_byte class (k + 1) ≡ false) (λ k. has_byte class (k + 1) ≡ true) c.find.ensures.ran
    (λ x q k. search (rules, tests)) (λ x q k. search (rules, tests)) in
    subst (λ last. RunEnd class first last) (sym c.unwrap_or.ensures) (ended class first c.find.result (search rules) found)
