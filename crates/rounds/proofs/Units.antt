use Rattle.std.proofs.Common.{◌≡◌, ℕ, ◌+◌, ◌*◌, ◌/◌, ◌%◌, ◌<◌, Bool, true, false, ◌&&◌, ◌||◌, Some, None, Option, sym, ap, ◌∙◌, arith}
use Rattle.std.specs.Prelude.{◌==◌}
use Rattle.std.proofs.lemmas.Bool.Decides.{nat_tests}
use Rattle.rounds.specs.declared.symbol.Side.{Side}
use Rattle.rounds.specs.declared.symbol.Side.TheVariants.{White, Black, Unplayed}
use Rattle.rounds.specs.declared.symbol.Outcome.{Outcome}
use Rattle.rounds.specs.declared.symbol.Outcome.TheVariants.{Win, Draw, Loss}
use Rattle.rounds.specs.declared.class.RoundClass.{RoundClass}
use Rattle.rounds.specs.Symbols.{side_number, outcome_number, on_any_side, on_side, in_unit}
use Rattle.rounds.specs.Class.{has_round, with_round, with_unit, with_rounds}
use Rattle.rounds.specs.Classes.{class_of-same, class_of-has}

-- A unit is added when its rounds are.

side_below : (s : Side) → side_number s < 3
side_below White = omega arith
side_below Black = omega arith
side_below Unplayed = omega arith

outcome_below : (o : Outcome) → outcome_number o < 3
outcome_below Win = omega arith
outcome_below Draw = omega arith
outcome_below Loss = omega arith

-- A letter with its side admits one round.
one_round : (n o s : ℕ) → o < 3 → s < 3 → (n == 3 * s + o) ≡ (n % 3 == o && n / 3 == s)
one_round n o s k l = grind (arith, nat_tests)

narrowed_is : (c : RoundClass) (o : Outcome) (s : Side)
    → with_round c (3 * side_number s + outcome_number o) ≡ with_unit c (on_side o s)
narrowed_is c o s =
    class_of-same (λ n. (n == 3 * side_number s + outcome_number o) || has_round c n) (λ n. in_unit (on_side o s) n || has_round c n)
    (λ n h. ap (λ t. t || has_round c n) (one_round n (outcome_number o) (side_number s) (outcome_below o) (side_below s)))

-- A letter alone admits one round on each of the three sides.
three_rounds : (n o : ℕ) (t : Bool) → n < 9 → o < 3
    → (n == 3 * 2 + o || (n == 3 * 1 + o || (n == 3 * 0 + o || t))) ≡ ((n % 3 == o && true) || t)
three_rounds n o true k l = grind (arith, nat_tests)
three_rounds n o false k l = grind (arith, nat_tests)

whole_is : (c : RoundClass) (o : Outcome)
    → with_round (with_round (with_round c (3 * 0 + outcome_number o)) (3 * 1 + outcome_number o)) (3 * 2 + outcome_number o)
    ≡ with_unit c (on_any_side o)
whole_is c o = class_of-same (λ n. (n == last) || has_round two n) (λ n. in_unit (on_any_side o) n || has_round c n) same
  where
    first : ℕ
    first = 3 * 0 + outcome_number o

    middle : ℕ
    middle = 3 * 1 + outcome_number o

    last : ℕ
    last = 3 * 2 + outcome_number o

    one : RoundClass
    one = with_round c first

    two : RoundClass
    two = with_round one middle

    same : (n : ℕ) → n < 9 → (n == last || has_round two n) ≡ (in_unit (on_any_side o) n || has_round c n)
    same n h =
        ap (λ t. (n == last) || t)
        (class_of-has (λ m. (m == middle) || has_round one m) n h
        ∙ ap (λ t. (n == middle) || t) (class_of-has (λ m. (m == first) || has_round c m) n h))
        ∙ three_rounds n (outcome_number o) (has_round c n) h (outcome_below o)

pub rounds_added : (c : RoundClass) (o : Outcome) (side : Option Side)
    → with_unit c (record { outcome = o; side = side }) ≡ with_rounds c o side
rounds_added c o None = sym (whole_is c o)
rounds_added c o (Some s) = sym (narrowed_is c o s)
