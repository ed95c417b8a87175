use Rattle.std.proofs.Common.{[], ◌∷◌, ◌+◌}
use Rattle.jif_grammar.specs.DraftShapes.{param_shape}
use Rattle.jif_resolve.specs.AddedVariables.{param_variable}
use Rattle.jif_resolve.proofs.VariableLists.{one_labelled, added_next, added_more, param_next, params_from}
use Rattle.jif_resolve.proofs.variables.push_params.Goals as goal

pub push_param-requires : goal.push_param-requires
push_param-requires c =
    let x = c.param-item.result in
    let i = c.loop-param.param-index in
    let variable = param_variable c.args.method (param_shape x) in
    one_labelled c.args.principals.now variable
    (added_next (variable ∷ []) (params_from c.args.method c.args.params.now (i + 1)) c.loop-param.invariant
    (param_next c.args.method c.args.params.now i x c.loop-param-test.true c.param-item.is))

pub loop-param-preserved : goal.loop-param-preserved
loop-param-preserved c =
    let x = c.param-item.result in
    let i = c.loop-param.param-index in
    added_more (param_variable c.args.method (param_shape x) ∷ [])
    (params_from c.args.method c.args.params.now (i + 1)) c.push_param.new.variables.items c.loop-param.invariant
    (param_next c.args.method c.args.params.now i x c.loop-param-test.true c.param-item.is)
    c.in_ok-push_param.ensures
