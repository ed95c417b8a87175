-- Lines meet no box but those at their ends.
use Rattle.std.proofs.Common.{◌≡◌, ◌≢◌, ◌<◌, ◌≤◌, ◌+◌, ◌-◌, ◌*◌, ◌%◌, ◌⊎◌, ℕ, Bool, true, false, inl, inr, min}
use Rattle.std.proofs.Common.{List, Some, All, length, refl, ap, ◌∙◌, arith, subst}
use Rattle.std.specs.Prelude.{slice_get, slice_index}
use Rattle.std.proofs.lemmas.Bool.{cases_lt, le-ltb, lt-ltb}
use Rattle.drawing_text.specs.declared.spans.Span.{Span}
use Rattle.plan_layout.specs.Columns.{columns_of, left_of, track_in_strip, track_of, width_of}
use Rattle.plan_layout.specs.Fits.{LineFits}
use Rattle.plan_layout.specs.Lines.{lane_of}
use Rattle.plan_layout.specs.Places.{places_of}
use Rattle.plan_layout.specs.Rectangles.{HaveNoCommonPoint, across, along, box_of, into}
use Rattle.plan_layout.specs.Routes.{ends_at, goes_at, route_of}
use Rattle.plan_layout.specs.Strips as strips
use Rattle.plan_layout.specs.declared.lines.Line.{Line}
use Rattle.plan_layout.proofs.Gaps.{room, rows_apart, strip_there}
use Rattle.plan_layout.proofs.Hubs.{track_within}

-- a line goes along its own row, so it meets no box of another
pub across_clear : (from top : ℕ) (widths : List ℕ) (lines : List Line) (rows : List Span) (line : Line)
    (column row : ℕ) (one : Span) → All (λ span. 8 ≤ span.after) rows → LineFits widths rows line →
    slice_get rows row ≡ Some one → row ≢ line.begin →
    HaveNoCommonPoint (across (route_of (columns_of from widths lines) (places_of top rows) line))
    (box_of (columns_of from widths lines) (places_of top rows) one.length column row)
across_clear from top widths lines rows line column row one free fits here differ =
    elim (rows_apart top row line.begin rows one fits.first free differ here fits.begins) [
      | inl above ↦ inr (inr (inr (omega (arith, above))))
      | inr below ↦ let leaves = fits.leaves in inr (inr (inl (omega (arith, below, leaves))))
    ]

-- the tip of a line is in its own row
into_rows : (from top : ℕ) (widths : List ℕ) (lines : List Line) (rows : List Span) (line : Line)
    (column row : ℕ) (one : Span) → All (λ span. 8 ≤ span.after) rows → LineFits widths rows line →
    slice_get rows row ≡ Some one → row ≢ line.end →
    HaveNoCommonPoint (into (route_of (columns_of from widths lines) (places_of top rows) line))
    (box_of (columns_of from widths lines) (places_of top rows) one.length column row)
into_rows from top widths lines rows line column row one free fits here differ =
    let tip = fits.tip in
    elim (rows_apart top row line.end rows one fits.last free differ here fits.ends) [
      | inl above ↦ inr (inr (inr (omega (arith, above, tip))))
      | inr below ↦ let enters = fits.enters in inr (inr (inl (omega (arith, below, enters, tip))))
    ]

own_hubs : (lines : List Line) (strip : ℕ) (rightward : Bool) →
    strips.lane_hubs (strips.strip_of lines strip) rightward
    ≡ strips.hubs_of (record { strip = strip; rightward = rightward }) lines
own_hubs lines strip true = refl
own_hubs lines strip false = refl

lane_within : (line : Line) (count : ℕ) → line.to.0 < count → (lane_of line).strip < count + 1
lane_within line count lt = elim (cases_lt line.from.0 line.to.0) [
  | inl right ↦ rw (lt-ltb line.from.0 line.to.0 right) (omega (arith, lt))
  | inr left ↦ rw (le-ltb line.from.0 line.to.0 left) (omega (arith, lt))
]

pub track_is : (from : ℕ) (widths : List ℕ) (lines : List Line) (line : Line) → line.to.0 < length widths →
    track_of (columns_of from widths lines) line ≡ strips.track_of lines line % 12
track_is from widths lines line within =
    let lane = lane_of line in
    let strip = strip_there lines (length widths + 1) lane.strip (lane_within line (length widths) within) in
    ap (λ found. track_in_strip found lane line) strip
    ∙ ap (λ hubs. strips.track_in hubs line.hub % 12) (own_hubs lines lane.strip lane.rightward)

-- there are so many tracks
pub track_small : (from : ℕ) (widths : List ℕ) (lines : List Line) (i : ℕ) (line : Line) →
    slice_get lines i ≡ Some line → line.to.0 < length widths →
    track_of (columns_of from widths lines) line + 1 ≤ min (length (strips.hubs_of (lane_of line) lines)) 12
track_small from widths lines i line here within =
    let is = track_is from widths lines line within in
    let inside = track_within lines i line here in
    omega (arith, is, inside)

-- columns begin in their order
ordered : (from : ℕ) (widths : List ℕ) (lines : List Line) (i j : ℕ) → i ≤ j → j < length widths →
    slice_index (columns_of from widths lines).places.starts i
    ≤ slice_index (columns_of from widths lines).places.starts j
ordered from widths lines i j most within = elim (cases_lt i j) [
  | inl before ↦ let gap = room lines from widths i j before within in omega (arith, gap)
  | inr past ↦
      let same : i ≡ j = omega (arith, most, past) in
      let starts : slice_index (columns_of from widths lines).places.starts i
      ≡ slice_index (columns_of from widths lines).places.starts j =
      ap (slice_index (columns_of from widths lines).places.starts) same in
      omega (arith, starts)
]

-- where a line goes up or down
pub at_right : (from : ℕ) (widths : List ℕ) (lines : List Line) (line : Line) → line.from.0 < line.to.0 →
    goes_at (columns_of from widths lines) line
    ≡ left_of (columns_of from widths lines) line.to - (14 + 9 * track_of (columns_of from widths lines) line)
at_right from widths lines line lt = rw (lt-ltb line.from.0 line.to.0 lt) refl

pub at_left : (from : ℕ) (widths : List ℕ) (lines : List Line) (line : Line) → line.to.0 ≤ line.from.0 →
    goes_at (columns_of from widths lines) line
    ≡ left_of (columns_of from widths lines) line.to + width_of (columns_of from widths lines) line.to
    + (14 + 9 * track_of (columns_of from widths lines) line)
at_left from widths lines line le = rw (le-ltb line.from.0 line.to.0 le) refl

pub small_right : (from : ℕ) (widths : List ℕ) (lines : List Line) (i : ℕ) (line : Line) →
    slice_get lines i ≡ Some line → line.to.0 < length widths → line.from.0 < line.to.0 →
    track_of (columns_of from widths lines) line + 1
    ≤ min (length (strips.strip_of lines line.to.0).rightward) 12
small_right from widths lines i line here within lt =
    let lane : lane_of line ≡ record { strip = line.to.0; rightward = true } =
    rw (lt-ltb line.from.0 line.to.0 lt) refl in
    subst (λ lane. track_of (columns_of from widths lines) line + 1 ≤ min (length (strips.hubs_of lane lines)) 12) lane
    (track_small from widths lines i line here within)

pub small_left : (from : ℕ) (widths : List ℕ) (lines : List Line) (i : ℕ) (line : Line) →
    slice_get lines i ≡ Some line → line.to.0 < length widths → line.to.0 ≤ line.from.0 →
    track_of (columns_of from widths lines) line + 1
    ≤ min (length (strips.strip_of lines (line.to.0 + 1)).leftward) 12
small_left from widths lines i line here within le =
    let lane : lane_of line ≡ record { strip = line.to.0 + 1; rightward = false } =
    rw (le-ltb line.from.0 line.to.0 le) refl in
    subst (λ lane. track_of (columns_of from widths lines) line + 1 ≤ min (length (strips.hubs_of lane lines)) 12) lane
    (track_small from widths lines i line here within)

within_right : (from : ℕ) (widths : List ℕ) (lines : List Line) (line : Line) (column : ℕ) → column ≤ line.to.0 →
    line.to.0 < length widths →
    goes_at (columns_of from widths lines) line
    ≡ left_of (columns_of from widths lines) line.to + width_of (columns_of from widths lines) line.to
    + (14 + 9 * track_of (columns_of from widths lines) line) →
    slice_index (columns_of from widths lines).places.starts column + slice_index widths column
    < goes_at (columns_of from widths lines) line - 4
within_right from widths lines line column most within at = elim (cases_lt column line.to.0) [
  | inl before ↦
      let gap = room lines from widths column line.to.0 before within in omega (arith, at, gap)
  | inr past ↦
      let same : column ≡ line.to.0 = omega (arith, most, past) in
      let ends : slice_index (columns_of from widths lines).places.starts column + slice_index widths column
      ≡ slice_index (columns_of from widths lines).places.starts line.to.0 + slice_index widths line.to.0 =
      ap (λ (c : ℕ). slice_index (columns_of from widths lines).places.starts c + slice_index widths c) same in
      omega (arith, at, ends)
]

-- between two columns it meets no box of any
pub along_clear : (from top : ℕ) (widths : List ℕ) (lines : List Line) (rows : List Span) (i : ℕ) (line : Line)
    (column row height : ℕ) → slice_get lines i ≡ Some line → line.to.0 < length widths → column < length widths →
    HaveNoCommonPoint (along (route_of (columns_of from widths lines) (places_of top rows) line))
    (box_of (columns_of from widths lines) (places_of top rows) height column row)
along_clear from top widths lines rows i line column row height here within inside =
    elim (cases_lt line.from.0 line.to.0) [
      | inl right ↦
          let at = at_right from widths lines line right in
          let small = small_right from widths lines i line here within right in
          let own = room lines from widths line.from.0 line.to.0 right within in
          elim (cases_lt column line.to.0) [
            | inl before ↦
                let gap = room lines from widths column line.to.0 before within in
                inr (inl (omega (arith, at, small, gap)))
            | inr behind ↦
                let order = ordered from widths lines line.to.0 column behind inside in
                inl (omega (arith, at, small, own, order))
          ]
      | inr left ↦
          let at = at_left from widths lines line left in
          let small = small_left from widths lines i line here within left in
          elim (cases_lt line.to.0 column) [
            | inl behind ↦
                let gap =
                room lines from widths line.to.0 (line.to.0 + 1) (omega arith) (omega (arith, behind, inside)) in
                let order = ordered from widths lines (line.to.0 + 1) column (omega (arith, behind)) inside in
                inl (omega (arith, at, small, gap, order))
            | inr most ↦
                inr (inl (within_right from widths lines line column most within at))
          ]
    ]

-- the tip of a line is beside the column that it leads to
into_columns : (from top : ℕ) (widths : List ℕ) (lines : List Line) (rows : List Span) (i : ℕ) (line : Line)
    (column row height : ℕ) → slice_get lines i ≡ Some line → line.to.0 < length widths → column < length widths →
    column ≢ line.to.0 →
    HaveNoCommonPoint (into (route_of (columns_of from widths lines) (places_of top rows) line))
    (box_of (columns_of from widths lines) (places_of top rows) height column row)
into_columns from top widths lines rows i line column row height here within inside differ =
    elim (cases_lt line.from.0 line.to.0) [
      | inl right ↦
          let at = at_right from widths lines line right in
          let small = small_right from widths lines i line here within right in
          let own = room lines from widths line.from.0 line.to.0 right within in
          let ends : ends_at (columns_of from widths lines) line ≡ left_of (columns_of from widths lines) line.to =
          rw (lt-ltb line.from.0 line.to.0 right) refl in
          elim (cases_lt column line.to.0) [
            | inl before ↦
                let gap = room lines from widths column line.to.0 before within in
                inr (inl (omega (arith, at, small, gap, ends)))
            | inr behind ↦
                let gap = room lines from widths line.to.0 column (omega (arith, behind, differ)) inside in
                inl (omega (arith, at, small, own, gap, ends))
          ]
      | inr left ↦
          let at = at_left from widths lines line left in
          let small = small_left from widths lines i line here within left in
          let ends : ends_at (columns_of from widths lines) line
          ≡ left_of (columns_of from widths lines) line.to + width_of (columns_of from widths lines) line.to =
          rw (le-ltb line.from.0 line.to.0 left) refl in
          elim (cases_lt line.to.0 column) [
            | inl behind ↦
                let gap =
                room lines from widths line.to.0 (line.to.0 + 1) (omega arith) (omega (arith, behind, inside)) in
                let order = ordered from widths lines (line.to.0 + 1) column (omega (arith, behind)) inside in
                inl (omega (arith, at, small, gap, order, ends))
            | inr most ↦
                let gap = room lines from widths column line.to.0 (omega (arith, most, differ)) within in
                inr (inl (omega (arith, at, gap, ends)))
          ]
    ]

pub into_clear : (from top : ℕ) (widths : List ℕ) (lines : List Line) (rows : List Span) (i : ℕ) (line : Line)
    (column row : ℕ) (one : Span) → All (λ span. 8 ≤ span.after) rows → slice_get lines i ≡ Some line →
    LineFits widths rows line → slice_get rows row ≡ Some one → column < length widths →
    (row ≢ line.end) ⊎ (column ≢ line.to.0) →
    HaveNoCommonPoint (into (route_of (columns_of from widths lines) (places_of top rows) line))
    (box_of (columns_of from widths lines) (places_of top rows) one.length column row)
into_clear from top widths lines rows i line column row one free there fits here inside (inl differ) =
    into_rows from top widths lines rows line column row one free fits here differ
into_clear from top widths lines rows i line column row one free there fits here inside (inr differ) =
    into_columns from top widths lines rows i line column row one.length there fits.column inside differ
