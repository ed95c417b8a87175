-- Columns are apart.
use Rattle.std.proofs.Common.{◌≡◌, ◌≤◌, ◌<◌, ◌+◌, ◌/◌, ℕ, suc, zero, List, [], ◌∷◌, Some, ap, arith, refl, sym, ◌∙◌}
use Rattle.std.specs.Prelude.{slice_get}
use Rattle.run_chart.specs.Columns.{column_of, columns_from, columns_of, head_width, is_wide, stand_of, stands_from}
use Rattle.run_chart.specs.Columns.{lines_of, stands_of}
use Rattle.run_chart.specs.Sheets.{ChartHostShape, ChartSheetShape}
use Rattle.run_chart.specs.declared.columns.ChartColumn.{ChartColumn}
use Rattle.run_chart.specs.declared.columns.ChartStand.{ChartStand}

stands_later : (sheet : ChartSheetShape) (number left i : ℕ) (hosts : List ChartHostShape) (one : ChartStand) →
    slice_get (stands_from sheet number left hosts) i ≡ Some one → left ≤ one.left
stands_later sheet number left i [] one here = absurd (let no = here in cc)
stands_later sheet number left zero (host ∷ hosts) one here =
    let is : Some (stand_of left host.label (is_wide sheet number host)) ≡ Some one = here in
    let same : stand_of left host.label (is_wide sheet number host) ≡ one = cc in
    let at = ap (λ (s : ChartStand). s.left) same in
    omega (arith, at)
stands_later sheet number left (suc i) (host ∷ hosts) one here =
    let later = stands_later sheet (number + 1) (left + head_width host.label (is_wide sheet number host) + 32) i hosts
    one here in
    omega (arith, later)

stands_follow : (sheet : ChartSheetShape) (number left i j : ℕ) (hosts : List ChartHostShape) (one other : ChartStand) →
    i < j → slice_get (stands_from sheet number left hosts) i ≡ Some one →
    slice_get (stands_from sheet number left hosts) j ≡ Some other → one.left + one.width + 32 ≤ other.left
stands_follow sheet number left i j [] one other lt here there = absurd (let no = here in cc)
stands_follow sheet number left i zero (host ∷ hosts) one other lt here there = absurd (omega (arith, lt))
stands_follow sheet number left zero (suc j) (host ∷ hosts) one other lt here there =
    let is : Some (stand_of left host.label (is_wide sheet number host)) ≡ Some one = here in
    let same : stand_of left host.label (is_wide sheet number host) ≡ one = cc in
    let at = ap (λ (s : ChartStand). s.left) same in
    let wide = ap (λ (s : ChartStand). s.width) same in
    let later = stands_later sheet (number + 1) (left + head_width host.label (is_wide sheet number host) + 32) j hosts
    other there in
    omega (arith, at, wide, later)
stands_follow sheet number left (suc i) (suc j) (host ∷ hosts) one other lt here there =
    stands_follow sheet (number + 1) (left + head_width host.label (is_wide sheet number host) + 32) i j hosts one other
    (omega (arith, lt)) here there

stand_middle : (sheet : ChartSheetShape) (number left i : ℕ) (hosts : List ChartHostShape) (one : ChartStand) →
    slice_get (stands_from sheet number left hosts) i ≡ Some one → one.middle ≡ one.left + one.width / 2
stand_middle sheet number left i [] one here = absurd (let no = here in cc)
stand_middle sheet number left zero (host ∷ hosts) one here =
    let is : Some (stand_of left host.label (is_wide sheet number host)) ≡ Some one = here in
    let same : stand_of left host.label (is_wide sheet number host) ≡ one = cc in
    sym (ap (λ (s : ChartStand). s.middle) same)
    ∙ ap (λ (s : ChartStand). s.left + s.width / 2) same
stand_middle sheet number left (suc i) (host ∷ hosts) one here =
    stand_middle sheet (number + 1) (left + head_width host.label (is_wide sheet number host) + 32) i hosts one here

-- the stand of a column
record HasStand (stands : List ChartStand) (i : ℕ) (column : ChartColumn) : Type 0 where
  stand : ChartStand
  there : slice_get stands i ≡ Some stand
  left : column.left ≡ stand.left
  middle : column.middle ≡ stand.middle
  width : column.width ≡ stand.width

stand_there : (all : List ChartStand) (number i : ℕ) (stands : List ChartStand) (column : ChartColumn) →
    slice_get (columns_from all number stands) i ≡ Some column → HasStand stands i column
stand_there all number i [] column here = absurd (let no = here in cc)
stand_there all number zero (stand ∷ stands) column here =
    let is : Some (column_of all number stand) ≡ Some column = here in
    let same : column_of all number stand ≡ column = cc in
    record {
      stand = stand;
      there = refl;
      left = sym (ap (λ (c : ChartColumn). c.left) same);
      middle = sym (ap (λ (c : ChartColumn). c.middle) same);
      width = sym (ap (λ (c : ChartColumn). c.width) same);
    }
stand_there all number (suc i) (stand ∷ stands) column here =
    let more = stand_there all (number + 1) i stands column here in
    record {
      stand = more.stand;
      there = more.there;
      left = more.left;
      middle = more.middle;
      width = more.width;
    }

-- of two columns the later begins 32 behind the end of the earlier, and so do their lifelines
pub columns_follow : (sheet : ChartSheetShape) (i j : ℕ) (one other : ChartColumn) → i < j →
    slice_get (columns_of sheet) i ≡ Some one → slice_get (columns_of sheet) j ≡ Some other →
    (one.left + one.width + 32 ≤ other.left) × (one.middle + 32 ≤ other.middle)
columns_follow sheet i j one other lt here there =
    let first = stand_there (stands_of sheet) 0 i (stands_of sheet) one here in
    let second = stand_there (stands_of sheet) 0 j (stands_of sheet) other there in
    let from = lines_of sheet + 14 in
    let follow = stands_follow sheet 0 from i j sheet.hosts first.stand second.stand lt first.there second.there in
    let own = stand_middle sheet 0 from i sheet.hosts first.stand first.there in
    let next = stand_middle sheet 0 from j sheet.hosts second.stand second.there in
    let left = first.left in
    let width = first.width in
    let middle = first.middle in
    let other_left = second.left in
    let other_middle = second.middle in (
      omega (arith, follow, left, width, other_left),
      omega (arith, follow, own, next, left, width, middle, other_left, other_middle),
    )
