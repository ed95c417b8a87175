-- Lines of different hubs are apart.
use Rattle.std.proofs.Common.{◌≡◌, ◌≢◌, ◌<◌, ◌≤◌, ◌+◌, ◌⊎◌, ℕ, true, false, inl, inr}
use Rattle.std.proofs.Common.{List, Some, length, refl, sym, ap, ◌∙◌, arith}
use Rattle.std.specs.Prelude.{slice_get, slice_index}
use Rattle.std.proofs.lemmas.Bool.{cases_lt, le-ltb, lt-ltb}
use Rattle.plan_layout.specs.Columns.{columns_of, left_of, track_of, width_of}
use Rattle.plan_layout.specs.Lines.{lane_of}
use Rattle.plan_layout.specs.Routes.{goes_at}
use Rattle.plan_layout.specs.Strips as strips
use Rattle.plan_layout.specs.declared.lines.Lane.{Lane}
use Rattle.plan_layout.specs.declared.lines.Line.{Line}
use Rattle.plan_layout.proofs.Clear.{at_left, at_right, small_left, small_right, track_is}
use Rattle.plan_layout.proofs.Gaps.{room}
use Rattle.plan_layout.proofs.Hubs.{one_place, track_within}

-- two hubs of a lane have two tracks
pub tracks_differ : (lines : List Line) (i j : ℕ) (line other : Line) → slice_get lines i ≡ Some line →
    slice_get lines j ≡ Some other → lane_of line ≡ lane_of other → line.hub ≢ other.hub →
    strips.track_of lines line ≢ strips.track_of lines other
tracks_differ lines i j line other here there lane differ = λ same.
    let hubs = strips.hubs_of (lane_of line) lines in
    let second : strips.track_in (strips.hubs_of (lane_of other) lines) other.hub ≡ strips.track_in hubs other.hub =
    ap (λ (l : Lane). strips.track_in (strips.hubs_of l lines) other.hub) (sym lane) in
    differ (one_place line.hub other.hub hubs (track_within lines i line here) (same ∙ second))

-- a lane is on one side of a strip
same_side : (line other : Line) → lane_of line ≡ lane_of other →
    ((line.from.0 < line.to.0) × (other.from.0 < other.to.0) × (line.to.0 ≡ other.to.0))
    ⊎ ((line.to.0 ≤ line.from.0) × (other.to.0 ≤ other.from.0) × (line.to.0 ≡ other.to.0))
same_side line other same =
    elim (cases_lt line.from.0 line.to.0) [
      | inl right ↦
          let first : lane_of line ≡ record { strip = line.to.0; rightward = true } =
          rw (lt-ltb line.from.0 line.to.0 right) refl in
          elim (cases_lt other.from.0 other.to.0) [
            | inl also ↦
                let second : lane_of other ≡ record { strip = other.to.0; rightward = true } =
                rw (lt-ltb other.from.0 other.to.0 also) refl in
                let to = ap (λ (l : Lane). l.strip) (sym first ∙ same ∙ second) in
                inl (right, also, to)
            | inr left ↦
                let second : lane_of other ≡ record { strip = other.to.0 + 1; rightward = false } =
                rw (le-ltb other.from.0 other.to.0 left) refl in
                let no : true ≡ false = ap (λ (l : Lane). l.rightward) (sym first ∙ same ∙ second) in
                absurd (cc)
          ]
      | inr left ↦
          let first : lane_of line ≡ record { strip = line.to.0 + 1; rightward = false } =
          rw (le-ltb line.from.0 line.to.0 left) refl in
          elim (cases_lt other.from.0 other.to.0) [
            | inl right ↦
                let second : lane_of other ≡ record { strip = other.to.0; rightward = true } =
                rw (lt-ltb other.from.0 other.to.0 right) refl in
                let no : false ≡ true = ap (λ (l : Lane). l.rightward) (sym first ∙ same ∙ second) in
                absurd (cc)
            | inr also ↦
                let second : lane_of other ≡ record { strip = other.to.0 + 1; rightward = false } =
                rw (le-ltb other.from.0 other.to.0 also) refl in
                let to : line.to.0 + 1 ≡ other.to.0 + 1 = ap (λ (l : Lane). l.strip) (sym first ∙ same ∙ second) in
                inr (left, also, omega (arith, to))
          ]
    ]

pub apart : (from : ℕ) (widths : List ℕ) (lines : List Line) (i j : ℕ) (line other : Line) →
    slice_get lines i ≡ Some line → slice_get lines j ≡ Some other → line.to.0 < length widths →
    lane_of line ≡ lane_of other → line.hub ≢ other.hub →
    strips.track_of lines line < strips.track_of lines other + 12 →
    strips.track_of lines other < strips.track_of lines line + 12 →
    (goes_at (columns_of from widths lines) line + 9 ≤ goes_at (columns_of from widths lines) other)
    ⊎ (goes_at (columns_of from widths lines) other + 9 ≤ goes_at (columns_of from widths lines) line)
apart from widths lines i j line other here there within lane differ near also_near =
    let apart_tracks = tracks_differ lines i j line other here there lane differ in
    let one = track_is from widths lines line within in
    elim (same_side line other lane) [
      | inl right ↦
          let to = right.2 in
          let also_within : other.to.0 < length widths = omega (arith, within, to) in
          let two = track_is from widths lines other also_within in
          let first = at_right from widths lines line right.0 in
          let second = at_right from widths lines other right.1 in
          let own = room lines from widths line.from.0 line.to.0 right.0 within in
          let small = small_right from widths lines i line here within right.0 in
          let also_small = small_right from widths lines j other there also_within right.1 in
          let left : left_of (columns_of from widths lines) line.to ≡ left_of (columns_of from widths lines) other.to =
          ap (slice_index (columns_of from widths lines).places.starts) to in
          elim
          (cases_lt (track_of (columns_of from widths lines) line) (track_of (columns_of from widths lines) other)) [
            | inl less ↦ inr (omega (arith, first, second, own, small, also_small, left, less, one, two))
            | inr more ↦
                inl
                (omega
                (arith, first, second, own, small, also_small, left, more, one, two, near, also_near, apart_tracks))
          ]
      | inr left ↦
          let to = left.2 in
          let also_within : other.to.0 < length widths = omega (arith, within, to) in
          let two = track_is from widths lines other also_within in
          let first = at_left from widths lines line left.0 in
          let second = at_left from widths lines other left.1 in
          let right : left_of (columns_of from widths lines) line.to + width_of (columns_of from widths lines) line.to
          ≡ left_of (columns_of from widths lines) other.to + width_of (columns_of from widths lines) other.to =
          ap (λ (c : ℕ). slice_index (columns_of from widths lines).places.starts c + slice_index widths c) to in
          elim
          (cases_lt (track_of (columns_of from widths lines) line) (track_of (columns_of from widths lines) other)) [
            | inl less ↦ inl (omega (arith, first, second, right, less, one, two))
            | inr more ↦
                inr (omega (arith, first, second, right, more, one, two, near, also_near, apart_tracks))
          ]
    ]

-- on the two sides of a strip
pub sides_apart : (from : ℕ) (widths : List ℕ) (lines : List Line) (i j : ℕ) (line other : Line) →
    slice_get lines i ≡ Some line → slice_get lines j ≡ Some other → line.to.0 < length widths →
    line.from.0 < line.to.0 → other.to.0 ≤ other.from.0 → other.to.0 + 1 ≡ line.to.0 →
    goes_at (columns_of from widths lines) other + 10 ≤ goes_at (columns_of from widths lines) line
sides_apart from widths lines i j line other here there within right left beside =
    let also_within : other.to.0 < length widths = omega (arith, within, beside) in
    let first = at_right from widths lines line right in
    let second = at_left from widths lines other left in
    let small = small_right from widths lines i line here within right in
    let also = small_left from widths lines j other there also_within left in
    let same : length (strips.strip_of lines (other.to.0 + 1)).leftward
    ≡ length (strips.strip_of lines line.to.0).leftward =
    ap (λ (number : ℕ). length (strips.strip_of lines number).leftward) beside in
    let gap = room lines from widths other.to.0 line.to.0 (omega (arith, beside)) within in
    omega (arith, first, second, small, also, same, gap)
