use Rattle.std.proofs.Common.{map}
use Rattle.jif_tree.specs.Trees.{program_tree, expr_tree}
use Rattle.jif_tree.specs.LabelRules.{method_at}
use Rattle.label_check.specs.Places.{setting_at}
use Rattle.label_check.proofs.Asked.{asked_before}
use Rattle.label_check.proofs.Arguments.{begin_refused, argument_refused, call_met, call_refused}
use Rattle.label_check.proofs.Exits.{handed_on}
use Rattle.label_check.proofs.calls.check_call.Goals as goal

pub returns-in_err-from-clause-err : goal.returns-in_err-from-clause-err
returns-in_err-from-clause-err c =
    handed_on c.from_residual.result c.from_residual.ensures
    (asked_before c.args.statement _ _ c.in_err-from.ensures.err)

pub returns-in_err-ask_begin-clause-err : goal.returns-in_err-ask_begin-clause-err
returns-in_err-ask_begin-clause-err c =
    handed_on c.from_residual-in_err-ask_begin.result c.from_residual-in_err-ask_begin.ensures
    (begin_refused c.args.statement (setting_at c.args.place.now) c.args.pc.now c.args.labels.now
    (method_at (program_tree c.args.place.now.program.now) c.args.method) (map expr_tree c.args.args.now) c.args.into
    c.in_ok-from.ensures.ok
    ((rw c.begin_label.ensures at c.in_err-ask_begin.ensures.err) c.args.place.now.principals.now))

pub returns-in_err-argument_flows-clause-err : goal.returns-in_err-argument_flows-clause-err
returns-in_err-argument_flows-clause-err c =
    let begins = rw c.begin_label.ensures at c.in_ok-ask_begin.ensures.ok in
    let flow = rw (c.deref.ensures.value, c.in_ok-from.ensures.labels, c.params_of.ensures.tree)
    at c.in_err-argument_flows.ensures.err in
    handed_on c.from_residual-in_err-argument_flows.result c.from_residual-in_err-argument_flows.ensures
    (argument_refused c.args.statement (setting_at c.args.place.now) c.args.pc.now c.args.labels.now
    (method_at (program_tree c.args.place.now.program.now) c.args.method) (map expr_tree c.args.args.now) c.args.into
    c.in_ok-from.ensures.ok (begins c.args.place.now.principals.now) (flow c.args.place.now.principals.now))

pub returns-clause-ok : goal.returns-clause-ok
returns-clause-ok c =
    call_met c.args.statement (setting_at c.args.place.now) c.args.pc.now c.args.labels.now
    (method_at (program_tree c.args.place.now.program.now) c.args.method) (map expr_tree c.args.args.now) c.args.into
    c.result_flow.result c.in_ok-from.ensures.ok
    (rw c.begin_label.ensures at c.in_ok-ask_begin.ensures.ok)
    (rw (c.deref.ensures.value, c.in_ok-from.ensures.labels, c.params_of.ensures.tree)
    at c.in_ok-argument_flows.ensures.ok)
    (rw c.result_of.ensures.tree at c.result_flow.ensures.ok)

pub returns-clause-err : goal.returns-clause-err
returns-clause-err c =
    call_refused c.args.statement (setting_at c.args.place.now) c.args.pc.now c.args.labels.now
    (method_at (program_tree c.args.place.now.program.now) c.args.method) (map expr_tree c.args.args.now) c.args.into
    c.result_flow.result c.in_ok-from.ensures.ok
    (rw c.begin_label.ensures at c.in_ok-ask_begin.ensures.ok)
    (rw (c.deref.ensures.value, c.in_ok-from.ensures.labels, c.params_of.ensures.tree)
    at c.in_ok-argument_flows.ensures.ok)
    (rw c.result_of.ensures.tree at c.result_flow.ensures.err)
