-- Rows are apart, and the line of an event is within its row.
use Rattle.std.proofs.Common.{◌≡◌, ◌≤◌, ◌<◌, ◌+◌, ℕ, suc, zero, List, [], ◌∷◌, Some, refl, ap, subst, arith}
use Rattle.std.specs.Prelude.{slice_get}
use Rattle.run_chart.specs.Rows.{begin_in, event_height, height_of, line_in, place_of, places_from}
use Rattle.run_chart.specs.Sheets.{ChartRowShape}
use Rattle.run_chart.specs.declared.rows.ChartPlace.{ChartPlace}
use Rattle.run_chart.specs.declared.sheet.ChartEvent.{ChartEvent}
use Rattle.run_chart.specs.declared.sheet.ChartEvent.TheVariants as event

pub starts_later : (start i : ℕ) (rows : List ChartRowShape) (one : ChartPlace) →
    slice_get (places_from start rows) i ≡ Some one → start ≤ one.start
starts_later start i [] one here = absurd (let no = here in cc)
starts_later start zero (row ∷ rows) one here =
    let is : Some (place_of start row) ≡ Some one = here in
    let same : place_of start row ≡ one = cc in
    let at = ap (λ (p : ChartPlace). p.start) same in
    omega (arith, at)
starts_later start (suc i) (row ∷ rows) one here =
    let later = starts_later (start + height_of row) i rows one here in omega (arith, later)

pub rows_follow : (start i j : ℕ) (rows : List ChartRowShape) (one other : ChartPlace) → i < j →
    slice_get (places_from start rows) i ≡ Some one → slice_get (places_from start rows) j ≡ Some other →
    one.end ≤ other.start
rows_follow start i j [] one other lt here there = absurd (let no = here in cc)
rows_follow start i zero (row ∷ rows) one other lt here there = absurd (omega (arith, lt))
rows_follow start zero (suc j) (row ∷ rows) one other lt here there =
    let is : Some (place_of start row) ≡ Some one = here in
    let same : place_of start row ≡ one = cc in
    let at = ap (λ (p : ChartPlace). p.end) same in
    let later = starts_later (start + height_of row) j rows other there in
    omega (arith, at, later)
rows_follow start (suc i) (suc j) (row ∷ rows) one other lt here there =
    rows_follow (start + height_of row) i j rows one other (omega (arith, lt)) here there

-- what is so of a place
pub record IsInside (one : ChartPlace) : Type 0 where
  pub above : one.start + 12 ≤ one.line
  pub below : one.line + 8 ≤ one.end
  pub begins : one.line ≤ one.begin
  pub ends : one.begin ≤ one.end

pub record IsIn (one : ChartEvent) : Type 0 where
  pub above : 12 ≤ line_in one
  pub below : line_in one + 8 ≤ event_height one
  pub begins : line_in one ≤ begin_in one
  pub ends : begin_in one ≤ event_height one

pub event_inside : (one : ChartEvent) → IsIn one
event_inside (event.Turn host) = record {
  above = omega arith;
  below = omega arith;
  begins = omega arith;
  ends = omega arith;
}
event_inside (event.Take from to stroke start) = record {
  above = omega arith;
  below = omega arith;
  begins = omega arith;
  ends = omega arith;
}
event_inside (event.Act from to) = record {
  above = omega arith;
  below = omega arith;
  begins = omega arith;
  ends = omega arith;
}

place_inside : (start : ℕ) (row : ChartRowShape) → IsInside (place_of start row)
place_inside start row =
    let own = event_inside row.event in
    let above = own.above in
    let below = own.below in
    let begins = own.begins in
    let ends = own.ends in
    record {
      above = omega (arith, above);
      below = omega (arith, below);
      begins = omega (arith, begins);
      ends = omega (arith, ends);
    }

pub all_inside : (start i : ℕ) (rows : List ChartRowShape) (one : ChartPlace) →
    slice_get (places_from start rows) i ≡ Some one → IsInside one
all_inside start i [] one here = absurd (let no = here in cc)
all_inside start zero (row ∷ rows) one here =
    let is : Some (place_of start row) ≡ Some one = here in
    let same : place_of start row ≡ one = cc in
    subst IsInside same (place_inside start row)
all_inside start (suc i) (row ∷ rows) one here = all_inside (start + height_of row) i rows one here

-- each row has a place
pub place_there : (start i : ℕ) (rows : List ChartRowShape) (row : ChartRowShape) → slice_get rows i ≡ Some row →
    (one : ChartPlace) × (slice_get (places_from start rows) i ≡ Some one)
place_there start i [] row here = absurd (let no = here in cc)
place_there start zero (first ∷ rows) row here = (place_of start first, refl)
place_there start (suc i) (first ∷ rows) row here = place_there (start + height_of first) i rows row here
