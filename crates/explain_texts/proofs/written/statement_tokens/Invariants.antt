use Rattle.std.proofs.Common.{◌≡◌, take}
use Rattle.std.specs.List.{flat_map}
use Rattle.jif_tree.specs.declared.draft.MethodDraft.{MethodDraft}
use Rattle.jif_grammar.specs.DraftShapes.{method_shape}
use Rattle.explain_texts.specs.DraftPlaces.{method_starts}
use Rattle.explain_texts.proofs.written.statement_tokens.Given as goal

abbrev pub invariant-loop-method : goal.invariant-loop-method
invariant-loop-method l =
    l.tokens.items ≡ flat_map (λ (one : MethodDraft). method_starts (method_shape one)) (take l.method-index l.methods)
