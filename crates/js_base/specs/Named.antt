-- Items that have names. A name is the list of its bytes.
use Rattle.std.specs.Prelude.{◌≡◌, ℕ, List, Contains, take, Some, slice_get}
use Rattle.std.specs.List.{IsDistinct}
use Rattle.std.specs.Str.{bytes_eq}

-- the first of the names that repeats an earlier one
pub record IsFirstRepeated (names : List (List ℕ)) (name : List ℕ) : Type 0 where
  pub place : ℕ
  pub here : slice_get names place ≡ Some name
  pub repeated : Contains (take place names) name
  pub none_before : IsDistinct bytes_eq (take place names)
