use Rattle.std.proofs.Common.{map, subst, sym}
use Rattle.std.specs.Prelude.{All}
use Rattle.host_code.specs.Messages.{MessageFits}
use Rattle.net_world.specs.Fits.{world_of}
use Rattle.run_chart.specs.Sheets.{chart_flight_shape}
use Rattle.run_sheet.specs.FlightsLeft.{flights_in_queue, flights_to}
use Rattle.run_sheet.specs.RunSources.{run_source_shape}
use Rattle.run_sheet.proofs.FlightLists.{messages_fit, queue_is}
use Rattle.run_sheet.proofs.HostLists.{flat_added, host_of}
use Rattle.run_sheet.proofs.flights.push_from.Goals as goal

pub push_queue-requires : goal.push_queue-requires
push_queue-requires c =
    let code = c.args.source.now.code.now in
    let to = host_of c.loop-number.number in
    subst (All (MessageFits code)) (sym c.flying-queue.ensures)
    (messages_fit code c.args.from to ((world_of c.args.source.now.world.now).flying c.args.from to)
    (c.requires.mail.flying c.args.from to))

pub loop-number-preserved : goal.loop-number-preserved
loop-number-preserved c =
    let source = run_source_shape c.args.source.now in
    let to = host_of c.loop-number.number in
    flat_added (flights_to source c.args.lanes.now c.args.from) (map chart_flight_shape c.args.flights.now.items)
    (map chart_flight_shape c.loop-number.flights.items) (map chart_flight_shape c.push_queue.new.flights.items)
    (flights_in_queue source.code c.args.lanes.now c.args.from to c.flying-numbers.result.now 0
    c.flying-queue.result.now) c.loop-number.number c.loop-number.invariant c.in_ok-push_queue.ensures
    (queue_is source c.args.lanes.now c.args.from to c.flying-numbers.result.now c.flying-queue.result.now
    c.flying-numbers.ensures c.flying-queue.ensures)
