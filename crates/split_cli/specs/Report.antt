-- The elements of a field, and its line.
use Rattle.std.specs.Prelude.{ℕ, ℤ, List, ◌++◌, map, codes}
use Rattle.std.specs.List.{join_with_byte}
use Rattle.std.specs.Fmt.{signed_decimal}

-- the elements, parted by one space
abbrev pub row_text : List ℤ → List ℕ
row_text row = join_with_byte 32 (map signed_decimal row)

-- `field NAME = V`
abbrev pub row_line : List ℕ → List ℤ → List ℕ
row_line name row = codes "field " ++ name ++ codes " = " ++ row_text row
