use Rattle.std.proofs.Common.{◌≡◌, ◌++◌, drop, map}
use Rattle.run_chart.specs.Sheets.{chart_flight_shape}
use Rattle.run_sheet.specs.FlightsLeft.{flights_in_queue}
use Rattle.run_sheet.proofs.flights.push_queue.Given as goal

-- what was added, and what the messages that are left give, make the whole
abbrev pub invariant-loop-place : goal.invariant-loop-place
invariant-loop-place l =
    map chart_flight_shape l.flights.items
    ++ flights_in_queue l.code l.lanes l.pair.0 l.pair.1 l.numbers l.place (drop l.place l.queue)
    ≡ map chart_flight_shape l.initial.flights.items
    ++ flights_in_queue l.code l.lanes l.pair.0 l.pair.1 l.numbers 0 l.queue
