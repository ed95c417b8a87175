use Rattle.std.proofs.Common.{◌≡◌, drop, map}
use Rattle.std.specs.List.{list_any}
use Rattle.run_chart.specs.Legend.{flies_as}
use Rattle.run_chart.specs.Sheets.{chart_flight_shape}
use Rattle.run_chart.proofs.legend.some_flies.Given as goal

abbrev pub invariant-loop-flight : goal.invariant-loop-flight
invariant-loop-flight l =
    list_any (flies_as l.one) (map chart_flight_shape (drop l.flight-index l.flights))
    ≡ list_any (flies_as l.one) (map chart_flight_shape l.flights)
