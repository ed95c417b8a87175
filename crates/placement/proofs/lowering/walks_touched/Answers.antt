use Rattle.std.proofs.Common.{arith}
use Rattle.msg_cost.specs.Steps.{moved}
use Rattle.placement.specs.Steps.{step_to}
use Rattle.placement.proofs.Touched.{touched_by}
use Rattle.placement.proofs.lowering.walks_touched.Goals as goal

pub returns-clause-change : goal.returns-clause-change
returns-clause-change c =
    let change = rw c.step_to.ensures at c.walks_change.ensures.change in
    let same = touched_by c.args.counted c.args.index.now c.args.part c.args.host.0 c.args.plan.now in
    let then = touched_by c.args.counted c.args.index.now c.args.part c.args.host.0
    (moved c.args.plan.now (step_to c.args.part c.args.host.0)) in
    omega arith
