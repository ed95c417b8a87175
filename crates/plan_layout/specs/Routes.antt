-- The way of a line: out of the edge of the column that it begins in, along that row to a strip beside the column that
-- it leads to, up or down there, and into the edge of that column.
use Rattle.std.specs.Prelude.{ℕ, ◌+◌, ◌-◌, ◌*◌, ◌^◌, ◌<◌, nat_le, nat_lt, if◌then◌else◌, slice_index}
use Rattle.plan_layout.specs.Columns.{ColumnsShape, left_of, track_of, width_of}
use Rattle.plan_layout.specs.Places.{PlacesShape}
use Rattle.plan_layout.specs.declared.lines.Line.{Line}
use Rattle.plan_layout.specs.declared.routes.Route.{Route}

abbrev pub right_of : ColumnsShape → Line → ℕ
right_of columns line = left_of columns line.to + width_of columns line.to

-- the edge at which it begins
abbrev pub begins_at : ColumnsShape → Line → ℕ
begins_at columns line =
    if nat_le line.from.0 line.to.0 then left_of columns line.from + width_of columns line.from
    else left_of columns line.from

-- how far from the edge of the column that it leads to it goes up or down
abbrev pub aside : ColumnsShape → Line → ℕ
aside columns line = 14 + 9 * track_of columns line

abbrev pub goes_at : ColumnsShape → Line → ℕ
goes_at columns line =
    if nat_lt line.from.0 line.to.0 then left_of columns line.to - aside columns line
    else right_of columns line + aside columns line

-- the edge at which it ends
abbrev pub ends_at : ColumnsShape → Line → ℕ
ends_at columns line =
    if nat_lt line.from.0 line.to.0 then left_of columns line.to else right_of columns line

abbrev pub leaves_at : PlacesShape → Line → ℕ
leaves_at rows line = slice_index rows.starts line.begin + line.leaves

abbrev pub enters_at : PlacesShape → Line → ℕ
enters_at rows line = slice_index rows.starts line.end + line.enters

abbrev pub route_of : ColumnsShape → PlacesShape → Line → Route
route_of columns rows line = record {
  from_x = begins_at columns line;
  from_y = leaves_at rows line;
  at_x = goes_at columns line;
  to_y = enters_at rows line;
  to_x = ends_at columns line;
  begins_right = nat_le line.from.0 line.to.0;
  down = nat_lt (leaves_at rows line) (enters_at rows line);
  ends_right = nat_lt line.from.0 line.to.0;
}

-- its numbers are so small that a few more pixels fit too
abbrev pub IsSmall : Route → Type 0
IsSmall route =
    (route.from_x < 2 ^ 53) × (route.from_y < 2 ^ 53) × (route.at_x < 2 ^ 53) × (route.to_y < 2 ^ 53)
    × (route.to_x < 2 ^ 53)
