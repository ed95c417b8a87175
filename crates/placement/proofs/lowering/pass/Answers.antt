use Rattle.std.proofs.lemmas.Result.{IfOk-weaker}
use Rattle.placement.specs.Choice.{after_steps}
use Rattle.placement.specs.Steps.{field_part, statement_part, steps_from, steps_in}
use Rattle.placement.specs.Views.{cost_in, count_in, IsCostedAs}
use Rattle.placement.proofs.TriedSteps.{both_passes}
use Rattle.placement.proofs.lowering.pass.Goals as goal

pub returns : goal.returns
returns c =
    let cost = cost_in c.args.counted in
    let count = count_in c.args.counted in
    let allowed = c.args.allowed.now in
    let first = steps_from field_part count 0 allowed.fields in
    let second = steps_from statement_part count 0 allowed.statements in
    let moved = c.in_ok-moved.moved.plan in
    IfOk-weaker c.pass_over_statements.result (IsCostedAs cost (after_steps cost moved second))
    (IsCostedAs cost (after_steps cost c.args.best.plan (steps_in count allowed)))
    (λ next tried. both_passes cost first second c.args.best.plan moved next
    (rw c.fields.ensures at c.in_ok-moved.ensures).same tried)
    (rw c.statements.ensures at c.pass_over_statements.ensures)
