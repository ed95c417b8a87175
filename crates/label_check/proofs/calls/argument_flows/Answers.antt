use Rattle.std.proofs.Common.{inl, inr, arith}
use Rattle.label_check.proofs.Arguments.{flows_less, flows_refused, labels_end}
use Rattle.label_check.proofs.Exits.{handed_on_all}
use Rattle.label_check.proofs.calls.argument_flows.Goals as goal

pub returns-in_default-given-clause-ok : goal.returns-in_default-given-clause-ok
returns-in_default-given-clause-ok c =
    labels_end c.args.statement c.args.pc.now c.args.labels.now _ c.flowing.given.now c.flowing.left.now
    c.flowing.invariant (inl (omega arith))

pub returns-in_err-ask_flow-clause-err : goal.returns-in_err-ask_flow-clause-err
returns-in_err-ask_flow-clause-err c =
    handed_on_all c.from_residual.result c.from_residual.ensures
    (flows_refused c.args.statement c.args.pc.now c.args.labels.now _ c.flowing.given.now c.flowing.left.now _ _
    (omega arith) (omega arith) c.flowing.invariant (rw c.variable_label.ensures at c.in_err-ask_flow.ensures.err))

pub flowing-preserved : goal.flowing-preserved
flowing-preserved c =
    flows_less c.args.statement c.args.pc.now c.args.labels.now _ c.flowing.given.now c.flowing.left.now _ _
    (omega arith) (omega arith) c.flowing.invariant (rw c.variable_label.ensures at c.in_ok-ask_flow.ensures.ok)

pub returns-clause-ok : goal.returns-clause-ok
returns-clause-ok c =
    labels_end c.args.statement c.args.pc.now c.args.labels.now _ c.flowing.given.now c.flowing.left.now
    c.flowing.invariant (inr (omega arith))
