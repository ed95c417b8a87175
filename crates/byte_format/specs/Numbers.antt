-- The bytes of numbers. All numbers have their highest byte first, signed ones in two's complement.
use Rattle.std.specs.Prelude.{ℕ, ◌<◌, ℤ, List, slice_index}
use Rattle.std.specs.Int.{w32, w64, to_be_bytes, cast_unsigned}

-- each item is a byte
abbrev pub AreBytes : List ℕ → Type 0
AreBytes bytes = (i : ℕ) → slice_index bytes i < 256

-- a number of four bytes
unfoldable pub number_bytes : ℕ → List ℕ
number_bytes n = to_be_bytes w32 n

-- a word of 64 bits
unfoldable pub word_bytes : ℕ → List ℕ
word_bytes n = to_be_bytes w64 n

-- a signed number of eight bytes
abbrev pub integer_bytes : ℤ → List ℕ
integer_bytes z = word_bytes (cast_unsigned w64 z)
