use Rattle.std.specs.Prelude.{◌≡◌, ℕ, ◌+◌, ◌<◌, ◌≤◌, true, false}
use Rattle.byte_kind.specs.declared.class.ByteClass.{ByteClass}
use Rattle.byte_kind.specs.Class.{has_byte}

-- The last of the bytes that follow one another in a class behind a first one.
pub record RunEnd (c : ByteClass) (first last : ℕ) : Type 0 where
  pub behind : first ≤ last
  pub all : (b : ℕ) → first < b → b ≤ last → has_byte c b ≡ true
  pub ends : last < 255 → has_byte c (last + 1) ≡ false
