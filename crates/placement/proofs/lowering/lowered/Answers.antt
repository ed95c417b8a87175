use Rattle.std.proofs.Common.{◌≡◌, ◌∙◌, ◌<◌, ap, suc, sym, arith}
use Rattle.need_labels.specs.Plan.{PlanShape}
use Rattle.placement.specs.Choice.{after_steps}
use Rattle.placement.specs.Steps.{steps_in}
use Rattle.placement.specs.Views.{cost_in, count_in}
use Rattle.placement.proofs.Passes.{lowered_at, passes_more, steps_lower}
use Rattle.placement.proofs.lowering.lowered.Goals as goal

pub returns-then-best-before : goal.returns-then-best-before
returns-then-best-before c =
    let cost = cost_in c.args.counted in
    let steps = steps_in (count_in c.args.counted) c.args.allowed.now in
    let was = c.loop-best.invariant in
    let now = c.in_ok-best.ensures in
    let same : cost c.in_ok-best.best.plan ≡ cost c.loop-best.best.plan =
    ap cost now.same ∙ sym now.costs ∙ c.if-best-before.true ∙ was.costed in
    lowered_at cost steps was.passes c.args.start.plan c.loop-best.best.plan c.in_ok-best.best.plan was.reached now.same
    same

pub loop-best-smaller : goal.loop-best-smaller
loop-best-smaller c =
    let cost = cost_in c.args.counted in
    let steps = steps_in (count_in c.args.counted) c.args.allowed.now in
    let was = c.loop-best.invariant in
    let now = c.in_ok-best.ensures in
    let lower = steps_lower cost c.loop-best.best.plan steps in
    let apart = c.if-best-before.false in
    let costs = now.costs in
    let costed = was.costed in
    let smaller : c.in_ok-best.best.cost < c.loop-best.best.cost = omega arith in
    smaller

pub loop-best-preserved : goal.loop-best-preserved
loop-best-preserved c =
    let cost = cost_in c.args.counted in
    let steps = steps_in (count_in c.args.counted) c.args.allowed.now in
    let was = c.loop-best.invariant in
    let now = c.in_ok-best.ensures in
    record {
      costed = now.costs ∙ sym (ap cost now.same);
      passes = suc was.passes;
      reached = now.same ∙ ap (λ (plan : PlanShape). after_steps cost plan steps) was.reached
          ∙ sym (passes_more cost steps was.passes c.args.start.plan);
    }
