use Rattle.std.proofs.Common.{◌≡◌, ◌++◌, map, take}
use Rattle.jif_grammar.specs.DraftShapes.{ParamShape, param_shape}
use Rattle.explain_texts.proofs.written.push_params.Given as goal

abbrev pub invariant-loop-param : goal.invariant-loop-param
invariant-loop-param l =
    l.tokens.items ≡ l.initial.tokens.items
    ++ map (λ (param : ParamShape). param.name.at) (map param_shape (take l.param-index l.params))
