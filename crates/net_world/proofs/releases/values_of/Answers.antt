use Rattle.std.proofs.Common.{rules, w64, SFits, ◌∙◌, ap}
use Rattle.std.proofs.lemmas.Int.{to_z-of_z}
use Rattle.host_core.specs.Host.{state_of, value_in_running}
use Rattle.net_world.proofs.ReleasedValues.{values_more, all_values}
use Rattle.net_world.proofs.releases.values_of.Goals as goal

pub loop-expression-preserved : goal.loop-expression-preserved
loop-expression-preserved c =
    let own : SFits w64 c.value.result = search rules in
    values_more (value_in_running (state_of c.args.there.now) c.args.there.now.running) c.args.expressions.now
    c.loop-expression.expression-index c.expression-item.result c.loop-expression.values.items _ _
    c.loop-expression-test.true c.loop-expression.invariant c.in_ok-push.ensures.items
    (to_z-of_z w64 c.value.result own ∙ c.value.ensures
    ∙ ap (value_in_running (state_of c.args.there.now) c.args.there.now.running) c.expression-item.is)

pub returns : goal.returns
returns c =
    all_values (value_in_running (state_of c.args.there.now) c.args.there.now.running) c.args.expressions.now
    c.loop-expression.expression-index _ c.loop-expression-test.false c.loop-expression.invariant
