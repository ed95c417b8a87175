use Rattle.plan_ways.specs.Stands.{places_on}
use Rattle.plan_ways.proofs.Walks.{host_added}
use Rattle.plan_ways.proofs.stands.places_of.Goals as goal

pub loop-number-preserved : goal.loop-number-preserved
loop-number-preserved c =
    host_added (places_on c.args.code.now c.args.doors.now) c.loop-number.number _ _ c.loop-number.invariant
    c.in_ok-push_places.ensures
