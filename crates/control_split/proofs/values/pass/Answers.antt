use Rattle.split_rules.specs.Walk.{emitted}
use Rattle.host_code.specs.declared.instruction.Op.TheVariants as op
use Rattle.control_split.proofs.Receivers.{one_more_given}
use Rattle.control_split.proofs.values.pass.Goals as goal

pub loop-other-preserved : goal.loop-other-preserved
loop-other-preserved c =
    let place = c.args.place.now in
    one_more_given c.args.trace.now c.loop-other.trace c.instruction.new.self
    (λ other. emitted place.host place.label.now place.statement (op.Pass c.args.x other))
    c.deref-other-items.result.now c.loop-other.other-index _ c.loop-other-test.true c.loop-other.invariant
    c.in_ok-instruction.ensures
