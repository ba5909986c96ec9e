use Rattle.std.specs.Prelude.{◌≡◌, ℕ, zero, suc, ◌+◌, ◌/◌, ◌%◌, ◌^◌, Bool, cond, ◌==◌}

-- A number read as a set: x belongs to s exactly when bit x of s is 1.
abbrev pub bit : ℕ → ℕ → ℕ
bit s x = s / 2 ^ x % 2

-- x belongs to s.
abbrev pub Member : ℕ → ℕ → Type 0
Member s x = bit s x ≡ 1

-- The same as a test.
abbrev pub member : ℕ → ℕ → Bool
member s x = bit s x == 1

-- The set of the numbers below n that pass a test.
unfoldable pub gathered : (ℕ → Bool) → ℕ → ℕ
gathered f zero = 0
gathered f (suc n) = gathered f n + cond (f n) (2 ^ n) 0

-- How many of the numbers below n belong to s.
unfoldable pub members : ℕ → ℕ → ℕ
members s zero = 0
members s (suc n) = members s n + bit s n
