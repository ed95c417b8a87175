use Rattle.std.proofs.Common.{[], map, refl}
use Rattle.run_chart.specs.Sheets.{chart_flight_shape}
use Rattle.run_sheet.specs.FlightsLeft.{flights_from}
use Rattle.run_sheet.specs.RunSources.{run_source_shape}
use Rattle.run_sheet.proofs.HostLists.{flat_added, host_of}
use Rattle.run_sheet.proofs.flights.flights_left.Goals as goal

pub loop-number-preserved : goal.loop-number-preserved
loop-number-preserved c =
    let source = run_source_shape c.args.source.now in
    flat_added (flights_from source c.args.lanes.now) [] (map chart_flight_shape c.loop-number.flights.items)
    (map chart_flight_shape c.push_from.new.flights.items)
    (flights_from source c.args.lanes.now (host_of c.loop-number.number)) c.loop-number.number
    c.loop-number.invariant c.in_ok-push_from.ensures refl
