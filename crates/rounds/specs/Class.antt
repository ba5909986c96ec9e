use Rattle.std.specs.Prelude.{◌≡◌, ℕ, ◌<◌, ◌≤◌, Bool, true, false, not, ◌&&◌, ◌||◌, ◌==◌, Some, None, Option, nat_lt}
use Rattle.sets.specs.NumberSets.{has, no_number, set_of, Words}
use Rattle.rounds.specs.declared.symbol.Side.{Side}
use Rattle.rounds.specs.declared.symbol.Side.TheVariants.{White, Black, Unplayed}
use Rattle.rounds.specs.declared.symbol.Outcome.{Outcome}
use Rattle.rounds.specs.declared.symbol.RoundUnit.{RoundUnit}
use Rattle.rounds.specs.declared.class.RoundClass.{RoundClass}
use Rattle.rounds.specs.Symbols.{round_number, in_unit}

-- Whether a class has the round of a number.
abbrev pub has_round : RoundClass → ℕ → Bool
has_round c n = has c.rounds n

-- The class of the rounds that pass a check of their numbers.
abbrev pub class_of : (ℕ → Bool) → RoundClass
class_of f = record { rounds = set_of (λ n. nat_lt n 9 && f n) }

-- A class with one round added.
abbrev pub with_round : RoundClass → ℕ → RoundClass
with_round c added = class_of (λ n. (n == added) || has_round c n)

-- A class with the rounds of a unit added.
abbrev pub with_unit : RoundClass → RoundUnit → RoundClass
with_unit c unit = class_of (λ n. in_unit unit n || has_round c n)

-- The same, round by round: one where the unit names a side, one on each side where it names none.
abbrev pub with_rounds : RoundClass → Outcome → Option Side → RoundClass
with_rounds c outcome (Some side) = with_round c (round_number (record { side = side; outcome = outcome }))
with_rounds c outcome None =
    with_round
    (with_round (with_round c (round_number (record { side = White; outcome = outcome })))
    (round_number (record { side = Black; outcome = outcome })))
    (round_number (record { side = Unplayed; outcome = outcome }))

-- The rounds that a class lacks, of the nine.
abbrev pub others : RoundClass → RoundClass
others c = class_of (λ n. not (has_round c n))

-- The class without a round, all zeros, and that of all nine.
abbrev pub empty_class : RoundClass
empty_class = record { rounds = no_number }

abbrev pub full_class : RoundClass
full_class = class_of (λ n. true)

-- A class of the nine rounds and of nothing else: two such that have the same rounds are equal.
pub record Nine (c : RoundClass) : Type 0 where
  pub words : Words c.rounds
  pub no_more : (n : ℕ) → 9 ≤ n → n < 64 → has_round c n ≡ false
