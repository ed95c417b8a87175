use Rattle.std.proofs.Common.{◌≡◌, ◌++◌, flat_map, map}
use Rattle.run_chart.specs.Sheets.{chart_flight_shape}
use Rattle.run_sheet.specs.FlightsLeft.{flights_to}
use Rattle.run_sheet.specs.RunSources.{hosts_below, run_source_shape}
use Rattle.run_sheet.proofs.flights.push_from.Given as goal

-- what was sent to the hosts so far
abbrev pub invariant-loop-number : goal.invariant-loop-number
invariant-loop-number l =
    map chart_flight_shape l.flights.items
    ≡ map chart_flight_shape l.initial.flights.items
    ++ flat_map (flights_to (run_source_shape l.source) l.lanes l.from) (hosts_below l.number)
