-- The fields of a host, as lines.
use Rattle.std.specs.Prelude.{ℕ, ◌+◌, ℤ, pos, ◌==◌, List, [], ◌∷◌, ◌++◌, map, codes, if◌then◌else◌}
use Rattle.std.specs.Fmt.{signed_decimal}
use Rattle.std.specs.List.{join_with_byte, range_with_len}
use Rattle.jif_tree.specs.Store.{element_at, row_of}
use Rattle.js_base.specs.declared.ids.HostId.{HostId}
use Rattle.host_code.specs.Code.{CodeFieldShape, CodeShape}
use Rattle.front_end.specs.Text.{lines_text}

-- the elements, parted by one space
abbrev pub row_text : List ℤ → List ℕ
row_text row = join_with_byte 32 (map signed_decimal row)

-- `field NAME = V`
abbrev pub row_line : List ℕ → List ℤ → List ℕ
row_line name row = codes "field " ++ name ++ codes " = " ++ row_text row

-- the elements of the field of this number, as many as the code gives it
abbrev pub elements_of : List (List ℤ) → ℕ → ℕ → List ℤ
elements_of rows number size = map (λ index. element_at (row_of rows number) (pos index)) (range_with_len 0 size)

-- its line, where the field is on this host
abbrev pub field_line : HostId → List (List ℤ) → ℕ → CodeFieldShape → List (List ℕ)
field_line me rows number field =
    if field.host.0 == me.0 then row_line field.name (elements_of rows number field.size) ∷ [] else []

-- the lines of the fields from a number on
abbrev pub field_lines : HostId → List (List ℤ) → ℕ → List CodeFieldShape → List (List ℕ)
field_lines me rows number [] = []
field_lines me rows number (field ∷ fields) =
    field_line me rows number field ++ field_lines me rows (number + 1) fields

-- the fields on a host that has these rows
abbrev pub fields_text : CodeShape → HostId → List (List ℤ) → List ℕ
fields_text code me rows = lines_text (field_lines me rows 0 code.fields)
