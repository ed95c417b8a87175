use Rattle.std.proofs.Common.{◌≡◌, map, take}
use Rattle.jif_grammar.specs.DraftShapes.{MethodShape, method_shape}
use Rattle.explain_texts.proofs.written.method_tokens.Given as goal

abbrev pub invariant-loop-method : goal.invariant-loop-method
invariant-loop-method l =
    l.tokens.items ≡ map (λ (method : MethodShape). method.name.at) (map method_shape (take l.method-index l.methods))
