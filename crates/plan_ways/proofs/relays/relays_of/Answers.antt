use Rattle.std.proofs.Common.{◌-◌, length, refl}
use Rattle.plan_ways.specs.Relays.{row_shape}
use Rattle.plan_ways.proofs.RelayWalks.{relay_added}
use Rattle.plan_ways.proofs.relays.relays_of.Goals as goal

pub loop-passed-preserved : goal.loop-passed-preserved
loop-passed-preserved c =
    let count = length c.entries-count.result.now in
    relay_added (row_shape c.args.sheet.now) count c.loop-passed.passed (count - 1 - c.loop-passed.passed) _ _ _ _ _ _
    refl refl c.loop-passed-test.true c.loop-passed.invariant c.in_ok-push_relay.ensures c.hand_down.ensures
