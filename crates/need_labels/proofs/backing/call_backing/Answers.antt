use Rattle.need_labels.proofs.Backings.{label_backs, param_backs, call_backs}
use Rattle.need_labels.proofs.backing.call_backing.Goals as goal

pub loop-param-init : goal.loop-param-init
loop-param-init c = rw (← c.begin_label-backing.ensures) (label_backs _ c.begin_label-backing.result)

pub loop-param-preserved : goal.loop-param-preserved
loop-param-preserved c =
    let within = rw c.params_of-param-items.ensures.tree at c.loop-param-test.true in
    let label = rw c.params_of-param-items.ensures.tree at c.label_of.ensures in
    param_backs _ _ _ c.loop-param.param-index _ c.label_of.result within label c.meet_integrity-backing.ensures.sets
    c.loop-param.invariant

pub returns : goal.returns
returns c =
    call_backs _ _ _ c.loop-param.param-index _
    (rw c.params_of-param-items.ensures.tree at c.loop-param-test.false) c.loop-param.invariant
    c.meet_integrity.ensures.sets c.variable_backing.ensures
