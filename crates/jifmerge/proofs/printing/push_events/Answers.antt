use Rattle.jifmerge.proofs.Printed.{event_more}
use Rattle.jifmerge.proofs.printing.push_events.Goals as goal

pub loop-event-preserved : goal.loop-event-preserved
loop-event-preserved c =
    event_more c.args.code.now c.args.events.now c.loop-event.event-index c.event-item.result _ _ _
    c.loop-event-test.true c.event-item.is c.loop-event.invariant
    (rw (c.as_str.ensures.value, c.in_ok-line.ensures) at c.in_ok-push_line.ensures)
