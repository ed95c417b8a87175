-- Columns, with the strips between them. The strip of a number is to the left of the column of that number, and the
-- last one to the right of the last column.
use Rattle.std.specs.Prelude.{ℕ, ◌+◌, ◌%◌, ◌==◌, Bool, true, if◌then◌else◌, List, [], ◌∷◌, length}
use Rattle.std.specs.Prelude.{Option, Some, None, slice_get, slice_index}
use Rattle.drawing_text.specs.declared.spans.Span.{Span}
use Rattle.js_base.specs.declared.ids.HostId.{HostId}
use Rattle.plan_layout.specs.Lines.{lane_of}
use Rattle.plan_layout.specs.Places.{PlacesShape, places_of}
use Rattle.plan_layout.specs.Strips as strips
use Rattle.plan_layout.specs.Strips.{StripShape}
use Rattle.plan_layout.specs.declared.lines.Lane.{Lane}
use Rattle.plan_layout.specs.declared.lines.Line.{Line}

-- where the columns begin, how wide they are, and what goes between them
pub record ColumnsShape : Type 0 where
  pub places : PlacesShape
  pub widths : List ℕ
  pub strips : List StripShape

abbrev pub width_of_strip : Option StripShape → (outer : Bool) → ℕ
width_of_strip None outer = 0
width_of_strip (Some strip) outer = strips.width_of strip outer

-- how wide the strip of a number is
abbrev pub width_at : List StripShape → ℕ → (outer : Bool) → ℕ
width_at all number outer = width_of_strip (slice_get all number) outer

-- a column of a width with the strip before it; behind the last of so many is one more
abbrev pub span_of : List StripShape → (count number width : ℕ) → Span
span_of all count number width = record {
  before = width_at all number (number == 0);
  length = width;
  after = if number + 1 == count then width_at all count true else 0;
}

-- the columns of these widths, of which the first has this number
abbrev pub spans_from : List StripShape → (count number : ℕ) → List ℕ → List Span
spans_from all count number [] = []
spans_from all count number (width ∷ widths) = span_of all count number width ∷ spans_from all count (number + 1) widths

-- columns of these widths, with room for these lines; the first strip begins here
abbrev pub columns_of : ℕ → List ℕ → List Line → ColumnsShape
columns_of from widths lines =
    let all = strips.strips_of lines (length widths + 1) in
    record { places = places_of from (spans_from all (length widths) 0 widths); widths = widths; strips = all }

abbrev pub left_of : ColumnsShape → HostId → ℕ
left_of columns column = slice_index columns.places.starts column.0

abbrev pub width_of : ColumnsShape → HostId → ℕ
width_of columns column = slice_index columns.widths column.0

abbrev pub track_in_strip : Option StripShape → Lane → Line → ℕ
track_in_strip None lane line = 0
track_in_strip (Some strip) lane line = strips.track_in (strips.lane_hubs strip lane.rightward) line.hub % 12

-- the track of a line, of which there are twelve
abbrev pub track_of : ColumnsShape → Line → ℕ
track_of columns line = track_in_strip (slice_get columns.strips (lane_of line).strip) (lane_of line) line
