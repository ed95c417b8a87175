-- The texts of the rows, one by one.
use Rattle.std.specs.Prelude.{ℕ, ◌+◌, List, [], ◌∷◌, ◌++◌}
use Rattle.run_chart.specs.Events.{ChartGridShape, row_text}
use Rattle.run_chart.specs.Rows.{place_at}
use Rattle.run_chart.specs.Sheets.{ChartRowShape, ChartSheetShape}

-- of these rows, of which the first has this number
abbrev pub row_texts : ChartSheetShape → ChartGridShape → (number : ℕ) → List ChartRowShape → List (List ℕ)
row_texts sheet grid number [] = []
row_texts sheet grid number (row ∷ rows) =
    row_text sheet grid (place_at grid.places number) row ∷ row_texts sheet grid (number + 1) rows

abbrev pub text_of_all : List (List ℕ) → List ℕ
text_of_all [] = []
text_of_all (text ∷ texts) = text ++ text_of_all texts
