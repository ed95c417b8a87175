use Rattle.std.proofs.Common.{◌≡◌, ◌++◌, drop, map}
use Rattle.std.specs.String.{string_bytes}
use Rattle.run_chart.specs.Foot.{flights_text}
use Rattle.run_chart.specs.Grids.{grid_shape}
use Rattle.run_chart.specs.Sheets.{chart_flight_shape, chart_sheet_shape}
use Rattle.run_chart.proofs.foot.push_flights.Given as goal

-- what was written, and the messages that are left, are all of them
abbrev pub invariant-loop-number : goal.invariant-loop-number
invariant-loop-number l =
    string_bytes l.text
    ++ flights_text (chart_sheet_shape l.sheet) (grid_shape l.grid) l.line l.number
    (map chart_flight_shape (drop l.number l.flights))
    ≡ string_bytes l.initial.text
    ++ flights_text (chart_sheet_shape l.sheet) (grid_shape l.grid) l.line 0
    (map chart_flight_shape l.flights)
