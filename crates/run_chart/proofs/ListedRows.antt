-- Each row has its text, in order.
use Rattle.std.proofs.Common.{◌≡◌, ◌+◌, ℕ, suc, zero, List, [], ◌∷◌, ◌++◌, Some, length, refl, ap, ◌∙◌, arith}
use Rattle.std.specs.Prelude.{slice_get}
use Rattle.run_chart.specs.Events.{ChartGridShape, row_text, rows_text}
use Rattle.run_chart.specs.Listed.{text_of_all, row_texts}
use Rattle.run_chart.specs.Rows.{place_at}
use Rattle.run_chart.specs.Sheets.{ChartRowShape, ChartSheetShape}

pub rows_joined : (sheet : ChartSheetShape) (grid : ChartGridShape) (number : ℕ) (rows : List ChartRowShape) →
    rows_text sheet grid number rows ≡ text_of_all (row_texts sheet grid number rows)
rows_joined sheet grid number [] = refl
rows_joined sheet grid number (row ∷ rows) =
    ap (λ (rest : List ℕ). row_text sheet grid (place_at grid.places number) row ++ rest)
    (rows_joined sheet grid (number + 1) rows)

pub as_many : (sheet : ChartSheetShape) (grid : ChartGridShape) (number : ℕ) (rows : List ChartRowShape) →
    length (row_texts sheet grid number rows) ≡ length rows
as_many sheet grid number [] = refl
as_many sheet grid number (row ∷ rows) = ap suc (as_many sheet grid (number + 1) rows)

listed_from : (sheet : ChartSheetShape) (grid : ChartGridShape) (number i : ℕ) (rows : List ChartRowShape)
    (row : ChartRowShape) → slice_get rows i ≡ Some row →
    slice_get (row_texts sheet grid number rows) i ≡ Some (row_text sheet grid (place_at grid.places (number + i)) row)
listed_from sheet grid number i [] row here = absurd (let no = here in cc)
listed_from sheet grid number zero (first ∷ rows) row here =
    let is : Some first ≡ Some row = here in
    let same : first ≡ row = cc in
    let at : number ≡ number + 0 = omega arith in
    ap (λ (r : ChartRowShape). Some (row_text sheet grid (place_at grid.places number) r)) same
    ∙ ap (λ (n : ℕ). Some (row_text sheet grid (place_at grid.places n) row)) at
listed_from sheet grid number (suc i) (first ∷ rows) row here =
    let at : number + 1 + i ≡ number + suc i = omega arith in
    listed_from sheet grid (number + 1) i rows row here
    ∙ ap (λ (n : ℕ). Some (row_text sheet grid (place_at grid.places n) row)) at

pub row_listed : (sheet : ChartSheetShape) (grid : ChartGridShape) (i : ℕ) (row : ChartRowShape) →
    slice_get sheet.rows i ≡ Some row →
    slice_get (row_texts sheet grid 0 sheet.rows) i ≡ Some (row_text sheet grid (place_at grid.places i) row)
row_listed sheet grid i row here =
    let at : 0 + i ≡ i = omega arith in
    listed_from sheet grid 0 i sheet.rows row here
    ∙ ap (λ (n : ℕ). Some (row_text sheet grid (place_at grid.places n) row)) at
