use Rattle.std.proofs.Common.{◌≡◌, drop, map}
use Rattle.std.specs.List.{list_any}
use Rattle.run_chart.specs.Columns.{is_in_flight}
use Rattle.run_chart.specs.Sheets.{chart_flight_shape}
use Rattle.run_chart.proofs.columns.is_in_flights.Given as goal

abbrev pub invariant-loop-flight : goal.invariant-loop-flight
invariant-loop-flight l =
    list_any (is_in_flight l.number) (map chart_flight_shape (drop l.flight-index l.flights))
    ≡ list_any (is_in_flight l.number) (map chart_flight_shape l.flights)
