-- Stores: a row of elements for each field. An element that is read out of range is 0, and a write out of range
-- does nothing.
use Rattle.std.specs.Prelude.{ℕ, ℤ, pos, negsuc, List, [], map, unwrap_or, slice_get, slice_set, replicate}
use Rattle.jif_tree.specs.declared.program.Field.{Field}
use Rattle.jif_tree.specs.declared.program.Program.{Program}

-- the element at an index
abbrev pub element_at : List ℤ → ℤ → ℤ
element_at row (pos index) = unwrap_or (slice_get row index) (pos 0)
element_at row (negsuc below) = pos 0

-- the row after a write at an index
abbrev pub with_element : List ℤ → ℤ → ℤ → List ℤ
with_element row (pos index) value = slice_set row index value
with_element row (negsuc below) value = row

-- the elements of a field
abbrev pub row_of : List (List ℤ) → ℕ → List ℤ
row_of store field = unwrap_or (slice_get store field) []

-- the store after a write of a field's element
abbrev pub store_after_write : List (List ℤ) → ℕ → ℤ → ℤ → List (List ℤ)
store_after_write store field index value = slice_set store field (with_element (row_of store field) index value)

-- what a field's elements start with
abbrev pub starting_row : Field → List ℤ
starting_row field = replicate field.size field.first

-- the store that the program's text gives
abbrev pub starting_values : Program → List (List ℤ)
starting_values program = map starting_row program.fields.items
