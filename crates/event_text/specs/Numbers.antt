-- Numbers as scripts write them.
use Rattle.std.specs.Prelude.{ℕ, ◌-◌, ◌^◌, ℤ, pos, negsuc, Bool, not, ◌==◌, ◌&&◌, ◌||◌, nat_lt}
use Rattle.std.specs.Prelude.{nat_le}
use Rattle.std.specs.Prelude.{if◌then◌else◌, List, [], ◌∷◌, length, slice_index, Option, Some, None}
use Rattle.std.specs.List.{list_all}
use Rattle.std.specs.Char.{is_ascii_digit}
use Rattle.std.specs.Str.Parse.{digits_value}

-- `0`, or digits without a leading 0
abbrev pub is_plain_number : List ℕ → Bool
is_plain_number word =
    (not (length word == 0) && list_all is_ascii_digit word) && (length word == 1 || not (slice_index word 0 == 48))

-- a number of 64 bits
abbrev pub number_of : List ℕ → Option ℕ
number_of word =
    if is_plain_number word && nat_lt (digits_value 10 word) (2 ^ 64) then Some (digits_value 10 word) else None

-- a number that is not below 0, where it is one of 64 bits with a sign
abbrev pub not_below_zero : Option ℕ → Option ℤ
not_below_zero None = None
not_below_zero (Some size) = if nat_lt size (2 ^ 63) then Some (pos size) else None

-- a number that is so far below 0, where it is one of 64 bits with a sign
abbrev pub below_zero : Option ℕ → Option ℤ
below_zero None = None
below_zero (Some size) = if nat_lt 0 size && nat_le size (2 ^ 63) then Some (negsuc (size - 1)) else None

-- a number of 64 bits with a sign: a `-`, and no other sign, stands before a number that is below 0
abbrev pub signed_of : List ℕ → Option ℤ
signed_of [] = None
signed_of (byte ∷ digits) =
    if byte == 45 then below_zero (number_of digits) else not_below_zero (number_of (byte ∷ digits))
