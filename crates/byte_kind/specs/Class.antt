use Rattle.std.specs.Prelude.{ℕ, Bool, not, ◌&&◌, ◌||◌, nat_le}
use Rattle.sets.specs.NumberSets.{has, no_number, set_of, Words as SetWords}
use Rattle.byte_kind.specs.declared.class.ByteClass.{ByteClass}

-- Whether a class has a byte.
abbrev pub has_byte : ByteClass → ℕ → Bool
has_byte c b = has c.bytes b

-- The class of the bytes that pass a test.
abbrev pub class_of : (ℕ → Bool) → ByteClass
class_of f = record { bytes = set_of f }

-- A byte from a first to a last one, both included.
abbrev pub between : ℕ → ℕ → ℕ → Bool
between first last b = nat_le first b && nat_le b last

-- A class with a range of bytes added.
abbrev pub ranged : ByteClass → ℕ → ℕ → ByteClass
ranged c first last = class_of (λ b. between first last b || has_byte c b)

-- All bytes that a class lacks.
abbrev pub others : ByteClass → ByteClass
others c = class_of (λ b. not (has_byte c b))

-- The class without a byte, all zeros.
abbrev pub empty_class : ByteClass
empty_class = record { bytes = no_number }

-- The class of one byte.
abbrev pub only_class : ℕ → ByteClass
only_class b = ranged empty_class b b

-- What holds of every value of the type: four words of 64 bits.
abbrev pub Words : ByteClass → Type 0
Words c = SetWords c.bytes
