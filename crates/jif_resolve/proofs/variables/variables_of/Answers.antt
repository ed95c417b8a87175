use Rattle.std.proofs.Common.{[], ◌+◌}
use Rattle.jif_grammar.specs.DraftShapes.{method_shape}
use Rattle.jif_resolve.specs.Variables.{method_variables}
use Rattle.jif_resolve.proofs.VariableLists.{added_next, added_more, added_all, method_next, no_methods, methods_left}
use Rattle.jif_resolve.proofs.variables.variables_of.Goals as goal

pub push_method-requires : goal.push_method-requires
push_method-requires c =
    let x = c.index-methods-number.result in
    let i = c.loop-number.number in
    added_next (method_variables (record { 0 = i }) (method_shape x)) (methods_left c.args.methods.now (i + 1))
    c.loop-number.invariant
    (method_next c.args.methods.now i x c.loop-number-test.true c.index-methods-number.is)

pub loop-number-preserved : goal.loop-number-preserved
loop-number-preserved c =
    let x = c.index-methods-number.result in
    let i = c.loop-number.number in
    added_more (method_variables (record { 0 = i }) (method_shape x)) (methods_left c.args.methods.now (i + 1))
    c.push_method.new.variables.items c.loop-number.invariant
    (method_next c.args.methods.now i x c.loop-number-test.true c.index-methods-number.is)
    c.in_ok-push_method.ensures

pub returns : goal.returns
returns c =
    added_all c.loop-number.invariant (no_methods c.args.methods.now c.loop-number.number c.loop-number-test.false) []
    tt
