use Rattle.std.proofs.Common.{◌+◌, ℕ, [], ◌∷◌, ◌∙◌, Option, ap, drop, map}
use Rattle.std.specs.Prelude.{slice_get}
use Rattle.run_chart.specs.Sheets.{chart_flight_shape}
use Rattle.run_sheet.specs.FlightsLeft.{flight_of, flights_in_queue}
use Rattle.run_sheet.proofs.ListWalks.{left_cut, shaped, walked}
use Rattle.run_sheet.proofs.flights.push_queue.Goals as goal

pub loop-place-preserved : goal.loop-place-preserved
loop-place-preserved c =
    let a = c.args in
    let place = c.loop-place.place in
    let message = c.index-queue-place.result in
    let numbers = a.numbers.now in
    let one = flight_of a.code.now a.lanes.now a.pair.0 a.pair.1 (slice_get numbers place) message in
    walked (map chart_flight_shape c.loop-place.flights.items) (map chart_flight_shape c.push.new.self.items) (one ∷ [])
    (flights_in_queue a.code.now a.lanes.now a.pair.0 a.pair.1 numbers place (drop place a.queue.now))
    (flights_in_queue a.code.now a.lanes.now a.pair.0 a.pair.1 numbers (place + 1) (drop (place + 1) a.queue.now)) _
    c.loop-place.invariant
    (ap (flights_in_queue a.code.now a.lanes.now a.pair.0 a.pair.1 numbers place)
    (left_cut a.queue.now place message message c.loop-place-test.true c.index-queue-place.is))
    (shaped chart_flight_shape c.loop-place.flights.items c.push.new.self.items c.in_ok-flight_of.field-0 one
    c.in_ok-push.ensures.items
    (c.in_ok-flight_of.ensures
    ∙ ap (λ (o : Option ℕ). flight_of a.code.now a.lanes.now a.pair.0 a.pair.1 o message) c.event_at-sent_by.ensures))
