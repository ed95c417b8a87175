-- What is between columns, and between rows.
use Rattle.std.proofs.Common.{◌≡◌, ◌≢◌, ◌<◌, ◌≤◌, ◌+◌, ◌*◌, ◌⊎◌, ℕ, zero, suc, false, inl, inr, max}
use Rattle.std.proofs.Common.{List, [], ◌∷◌, Some, All, length, get_or, refl, ap, ◌∙◌, arith}
use Rattle.std.specs.Prelude.{slice_get, slice_index, ◌==◌}
use Rattle.std.proofs.lemmas.Bool.{cases_lt}
use Rattle.std.proofs.lemmas.Option.{slice_get-get_or, slice_get_within, get_or_from_slice_get}
use Rattle.std.proofs.lemmas.List.Elements.{All-get_or}
use Rattle.std.proofs.lemmas.List.FromFn.{get_or-map-range_with_len, length-map-range_with_len}
use Rattle.drawing_text.specs.Spans.{starts_from}
use Rattle.drawing_text.specs.declared.spans.Span.{Span}
use Rattle.drawing_text.proofs.Rows.{apart, as_many}
use Rattle.plan_layout.specs.Columns.{columns_of, span_of, spans_from, width_at, width_of_strip}
use Rattle.plan_layout.specs.Strips.{StripShape, strip_of, strips_of, tracks_of}
use Rattle.plan_layout.specs.declared.lines.Line.{Line}

-- the column of a number
pub span_there : (all : List StripShape) (count number i : ℕ) (widths : List ℕ) → i < length widths →
    slice_get (spans_from all count number widths) i
    ≡ Some (span_of all count (number + i) (slice_index widths i))
span_there all count number i [] lt = absurd (omega (arith, lt))
span_there all count number zero (width ∷ widths) lt =
    ap (λ (n : ℕ). Some (span_of all count n width)) (omega arith)
span_there all count number (suc i) (width ∷ widths) lt =
    span_there all count (number + 1) i widths (omega (arith, lt))
    ∙ ap (λ (n : ℕ). Some (span_of all count n (slice_index widths i))) (omega arith)

pub start_there : (from i : ℕ) (spans : List Span) → i < length spans →
    slice_get (starts_from from spans) i ≡ Some (slice_index (starts_from from spans) i)
start_there from i spans lt =
    slice_get-get_or (starts_from from spans) i 0 (omega (arith, lt, as_many from spans))

pub as_many_spans : (all : List StripShape) (count number : ℕ) (widths : List ℕ) →
    length (spans_from all count number widths) ≡ length widths
as_many_spans all count number [] = refl
as_many_spans all count number (width ∷ widths) = ap suc (as_many_spans all count (number + 1) widths)

pub strip_there : (lines : List Line) (count i : ℕ) → i < count →
    slice_get (strips_of lines count) i ≡ Some (strip_of lines i)
strip_there lines count i lt =
    slice_get-get_or (strips_of lines count) i (strip_of lines i)
    (omega (arith, lt, length-map-range_with_len (strip_of lines) 0 count))
    ∙ ap Some (get_or-map-range_with_len (strip_of lines) 0 count i i (strip_of lines i) lt (omega arith))

-- what is left of a column has room for the lines there
pub room : (lines : List Line) (from : ℕ) (widths : List ℕ) (i j : ℕ) → i < j → j < length widths →
    (slice_index (columns_of from widths lines).places.starts i + slice_index widths i
    + (20 + 9 * tracks_of (strip_of lines j)) ≤ slice_index (columns_of from widths lines).places.starts j)
    × (slice_index (columns_of from widths lines).places.starts i + slice_index widths i + 28
    ≤ slice_index (columns_of from widths lines).places.starts j)
room lines from widths i j lt within =
    let count = length widths in
    let all = strips_of lines (count + 1) in
    let spans = spans_from all count 0 widths in
    let many = as_many_spans all count 0 widths in
    let here = span_there all count 0 i widths (omega (arith, lt, within)) in
    let there = span_there all count 0 j widths within in
    let gap = apart from i j spans _ _ _ _ lt here there (start_there from i spans (omega (arith, lt, within, many)))
    (start_there from j spans (omega (arith, within, many))) in
    let from_none : 0 + j ≡ j = omega arith in
    let inner : (j == 0) ≡ false = grind (arith, lt) in
    let strip = strip_there lines (count + 1) j (omega (arith, within)) in
    let before : width_at all (0 + j) (0 + j == 0) ≡ max (20 + 9 * tracks_of (strip_of lines j)) 28 =
    ap (λ (n : ℕ). width_of_strip (slice_get all n) (n == 0)) from_none ∙ rw (inner, strip) refl in
    (omega (arith, gap, before), omega (arith, gap, before))

free_behind : (rows : List Span) (i : ℕ) (one : Span) → All (λ row. 8 ≤ row.after) rows →
    slice_get rows i ≡ Some one → 8 ≤ one.after
free_behind rows i one free here =
    let at = All-get_or (λ (row : Span). 8 ≤ row.after) rows i one (slice_get_within rows i one here) free in
    let is = get_or_from_slice_get rows i one one here in
    let same : (get_or rows i one).after ≡ one.after = ap (λ (row : Span). row.after) is in
    omega (arith, at, same)

-- two rows, of which each has 8 free behind it
pub rows_apart : (from i j : ℕ) (rows : List Span) (one other : Span) → All (λ row. 8 ≤ row.after) rows → i ≢ j →
    slice_get rows i ≡ Some one → slice_get rows j ≡ Some other →
    (slice_index (starts_from from rows) i + one.length + 8 ≤ slice_index (starts_from from rows) j)
    ⊎ (slice_index (starts_from from rows) j + other.length + 8 ≤ slice_index (starts_from from rows) i)
rows_apart from i j rows one other free differ here there =
    let first = start_there from i rows (slice_get_within rows i one here) in
    let second = start_there from j rows (slice_get_within rows j other there) in
    let one_free = free_behind rows i one free here in
    let other_free = free_behind rows j other free there in
    elim (cases_lt i j) [
      | inl before ↦
          let gap = apart from i j rows one other _ _ before here there first second in
          inl (omega (arith, gap, one_free))
      | inr behind ↦
          let later : j < i = omega (arith, behind, differ) in
          let gap = apart from j i rows other one _ _ later there here second first in
          inr (omega (arith, gap, other_free))
    ]
