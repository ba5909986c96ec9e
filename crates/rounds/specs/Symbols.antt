use Rattle.std.specs.Prelude.{◌≡◌, ℕ, ◌+◌, ◌*◌, ◌/◌, ◌%◌, ◌<◌, ◌≤◌, Bool, true, cond, ◌&&◌, List, ◌++◌, codes, decimal, Some, None, Option, Result, MatchResult, ◌==◌}
use Rattle.rounds.specs.declared.symbol.Side.{Side}
use Rattle.rounds.specs.declared.symbol.Side.TheVariants.{White, Black, Unplayed}
use Rattle.rounds.specs.declared.symbol.Outcome.{Outcome}
use Rattle.rounds.specs.declared.symbol.Outcome.TheVariants.{Win, Draw, Loss}
use Rattle.rounds.specs.declared.symbol.Round.{Round}
use Rattle.rounds.specs.declared.symbol.RoundUnit.{RoundUnit}
use Rattle.rounds.specs.declared.symbol.UnknownRound.{UnknownRound}

-- The number of each side, of each outcome, and of a round, which is below nine.
abbrev pub side_number : Side → ℕ
side_number White = 0
side_number Black = 1
side_number Unplayed = 2

abbrev pub outcome_number : Outcome → ℕ
outcome_number Win = 0
outcome_number Draw = 1
outcome_number Loss = 2

abbrev pub round_number : Round → ℕ
round_number round = 3 * side_number round.side + outcome_number round.outcome

-- The way back.
abbrev pub side_of : ℕ → Side
side_of n = cond (n == 0) White (cond (n == 1) Black Unplayed)

abbrev pub outcome_of : ℕ → Outcome
outcome_of n = cond (n == 0) Win (cond (n == 1) Draw Loss)

abbrev pub round_of : ℕ → Round
round_of n = record { side = side_of (n / 3); outcome = outcome_of (n % 3) }

-- What turning a number into a round gives: the round of that number, or the number back if there is none.
abbrev pub IsRoundOf : ℕ → Result Round UnknownRound → Type 0
IsRoundOf n r = MatchResult r (λ round. (n < 9) × (round ≡ round_of n)) (λ e. (9 ≤ n) × (e.0 ≡ n))

-- A unit that names an outcome alone, and one that names a side too.
abbrev pub on_any_side : Outcome → RoundUnit
on_any_side outcome = record { outcome = outcome; side = None }

abbrev pub on_side : Outcome → Side → RoundUnit
on_side outcome side = record { outcome = outcome; side = Some side }

-- Whether the round of a number is on a side, where one is named.
abbrev pub is_on : Option Side → ℕ → Bool
is_on None n = true
is_on (Some side) n = n / 3 == side_number side

-- Whether a unit admits the round of a number: its outcome is the unit's, and its side is the unit's
-- where the unit names one.
abbrev pub in_unit : RoundUnit → ℕ → Bool
in_unit unit n = n % 3 == outcome_number unit.outcome && is_on unit.side n

-- The letter that an outcome prints, and the one that a side prints.
abbrev pub outcome_letter : Outcome → List ℕ
outcome_letter Win = codes "W"
outcome_letter Draw = codes "D"
outcome_letter Loss = codes "L"

abbrev pub side_letter : Side → List ℕ
side_letter White = codes "w"
side_letter Black = codes "b"
side_letter Unplayed = codes "u"

-- What a round prints: the letter of its outcome, and behind it the letter of its side.
abbrev pub round_text : Round → List ℕ
round_text round = outcome_letter round.outcome ++ side_letter round.side

-- What is printed of a number that no round has.
abbrev pub unknown_round_text : UnknownRound → List ℕ
unknown_round_text unknown = codes "no round has the number " ++ decimal unknown.0
