-- The bytes of lists.
use Rattle.std.specs.Prelude.{ℕ, List, ◌++◌, length}
use Rattle.std.specs.List.{flat_map}
use Rattle.byte_format.specs.Numbers.{number_bytes}

-- how many items it has, and the items
abbrev pub list_bytes : {A : Type 0} → (A → List ℕ) → List A → List ℕ
list_bytes item_bytes items = number_bytes (length items) ++ flat_map item_bytes items
