use Rattle.std.proofs.Common.{◌≡◌, flat_map, map}
use Rattle.run_chart.specs.Sheets.{chart_flight_shape}
use Rattle.run_sheet.specs.FlightsLeft.{flights_from}
use Rattle.run_sheet.specs.RunSources.{hosts_below, run_source_shape}
use Rattle.run_sheet.proofs.flights.flights_left.Given as goal

-- what the hosts so far sent
abbrev pub invariant-loop-number : goal.invariant-loop-number
invariant-loop-number l =
    map chart_flight_shape l.flights.items
    ≡ flat_map (flights_from (run_source_shape l.source) l.lanes) (hosts_below l.number)
