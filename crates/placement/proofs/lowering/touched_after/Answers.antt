use Rattle.std.proofs.Common.{◌∙◌}
use Rattle.msg_cost.specs.Steps.{moved}
use Rattle.placement.specs.Steps.{step_to}
use Rattle.placement.proofs.Touched.{touched_by}
use Rattle.placement.proofs.lowering.touched_after.Goals as goal

pub returns-clause-cost : goal.returns-clause-cost
returns-clause-cost c =
    (rw c.step_to.ensures at c.cost_after.ensures.cost)
    ∙ touched_by c.args.counted c.args.index.now c.args.part c.args.host.0
    (moved c.args.plan.now (step_to c.args.part c.args.host.0))
