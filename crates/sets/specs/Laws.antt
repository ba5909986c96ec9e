use Rattle.std.specs.Prelude.{◌≡◌, ℕ, ◌-◌, ◌^◌, ◌<◌, Bool, not, ◌||◌, ◌⊎◌, ◌↔◌, ◌==◌, bit_and, bit_or, count_ones}
use Rattle.sets.specs.Sets.{Member, member, gathered, members}

-- What numbers are as sets.
pub record SetLaws : Type 0 where
  pub none : (x : ℕ) → Member 0 x → ⊥
  pub single : (y x : ℕ) → Member (2 ^ y) x ↔ (x ≡ y)
  pub union : (a b x : ℕ) → Member (bit_or a b) x ↔ (Member a x ⊎ Member b x)
  pub meet : (a b x : ℕ) → Member (bit_and a b) x ↔ (Member a x × Member b x)
  -- the complement below n, as `!a` gives it at a number of n bits
  pub others : (n a x : ℕ) → a < 2 ^ n → x < n → member (2 ^ n - 1 - a) x ≡ not (member a x)
  -- a set below 2 ^ n has no member from n up
  pub bounded : (n a x : ℕ) → a < 2 ^ n → Member a x → x < n
  -- sets with equal members are equal
  pub same : (n a b : ℕ) → a < 2 ^ n → b < 2 ^ n → ((x : ℕ) → x < n → member a x ≡ member b x) → a ≡ b
  pub gather : (f : ℕ → Bool) (n x : ℕ) → x < n → member (gathered f n) x ≡ f x
  pub small : (f : ℕ → Bool) (n : ℕ) → gathered f n < 2 ^ n
  -- `count_ones` counts the members
  pub count : (n a : ℕ) → a < 2 ^ n → count_ones a ≡ members a n

-- The set b is a with x added, if x is below n; otherwise it is a.
abbrev pub Added : ℕ → ℕ → ℕ → ℕ → Type 0
Added n a x b = (y : ℕ) → y < n → member b y ≡ (y == x || member a y)
