-- How the elements of all fields stand in one vector, with a table of offsets.
use Rattle.std.specs.Prelude.{◌≡◌, ◌≤◌, ℕ, ◌+◌, ◌-◌, ℤ, List, [], ◌∷◌, take, drop, length}
use Rattle.std.specs.Prelude.{slice_get, Some}
use Rattle.jif_tree.specs.Store.{row_of}

-- the elements from an offset up to another
abbrev pub elements_between : List ℤ → ℕ → ℕ → List ℤ
elements_between elements start end = take (end - start) (drop start elements)

-- the rows behind an offset, each of which ends at the next of these offsets
abbrev pub rows_from : List ℤ → ℕ → List ℕ → List (List ℤ)
rows_from elements start [] = []
rows_from elements start (end ∷ ends) = elements_between elements start end ∷ rows_from elements end ends

-- the rows of a table of offsets: where each begins, and then where the last ends
abbrev pub rows_at : List ℤ → List ℕ → List (List ℤ)
rows_at elements [] = []
rows_at elements (start ∷ ends) = rows_from elements start ends

-- offsets that do not fall, from one to the last
abbrev pub RiseTo : ℕ → ℕ → List ℕ → Type 0
RiseTo last start [] = start ≡ last
RiseTo last start (end ∷ ends) = (start ≤ end) × RiseTo last end ends

-- the first row begins with the first element, and the last ends with the last
abbrev pub AreOffsets : List ℤ → List ℕ → Type 0
AreOffsets elements [] = ⊥
AreOffsets elements (start ∷ ends) = (start ≡ 0) × RiseTo (length elements) start ends

-- the row of a field is from an offset of the table up to the next
pub record IsRow (elements : List ℤ) (offsets : List ℕ) (field start end : ℕ) : Type 0 where
  pub begins : slice_get offsets field ≡ Some start
  pub ends : slice_get offsets (field + 1) ≡ Some end
  pub rises : start ≤ end
  pub within : end ≤ length elements
  pub is : row_of (rows_at elements offsets) field ≡ elements_between elements start end
