use Rattle.std.specs.Prelude.{◌≡◌, ℕ, zero, suc, ◌+◌, ◌*◌, ◌/◌, ◌%◌, ◌^◌, ◌<◌, ◌≤◌, Bool, false, ◌&&◌, List, [], ◌∷◌, length, nat_lt, replicate, slice_index}
use Rattle.sets.specs.Sets.{member, gathered}
use Rattle.sets.specs.declared.number_set.NumberSet.{NumberSet}

-- Sets of numbers in words of 64 bits: number n is bit n % 64 of word n / 64.
abbrev pub in_words : List ℕ → ℕ → Bool
in_words words n = member (slice_index words (n / 64)) (n % 64)

abbrev pub has : {w : ℕ} → NumberSet w → ℕ → Bool
has s n = in_words s.words n

-- The set without a number: all zeros.
abbrev pub no_number : {w : ℕ} → NumberSet w
no_number {w} = record { words = replicate w 0 }

-- Word i, and so many words from word i on, with the numbers that pass a test.
abbrev pub word_of : (ℕ → Bool) → ℕ → ℕ
word_of f i = gathered (λ j. f (i * 64 + j)) 64

unfoldable pub words_of : (ℕ → Bool) → ℕ → ℕ → List ℕ
words_of f i zero = []
words_of f i (suc count) = word_of f i ∷ words_of f (suc i) count

-- The set of the numbers that pass a test, as far as there are words for them.
unfoldable pub set_of : {w : ℕ} → (ℕ → Bool) → NumberSet w
set_of {w} f = record { words = words_of f 0 w }

-- The numbers below a count that pass a test, of which this is told: what its answer at a number may be. The set
-- has each number as the test may answer, and none from the count up; so it is the set of the answers, where
-- there is one at each number.
pub record Gathered {w : ℕ} (answers : ℕ → Bool → Type 0) (count : ℕ) (s : NumberSet w) : Type 0 where
  pub below : (n : ℕ) → n < count → n < 64 * w → answers n (has s n)
  pub no_more : (n : ℕ) → count ≤ n → n < 64 * w → has s n ≡ false
  pub whole : (f : ℕ → Bool) → ((n : ℕ) (r : Bool) → n < count → answers n r → r ≡ f n) → s ≡ set_of (λ n. nat_lt n count && f n)

-- What holds of every value of the type: so many words, of 64 bits each.
pub record Words {w : ℕ} (s : NumberSet w) : Type 0 where
  pub many : length s.words ≡ w
  pub small : (i : ℕ) → slice_index s.words i < 2 ^ 64
