use Rattle.std.proofs.Common.{◌≡◌, map, take}
use Rattle.jif_grammar.specs.DraftShapes.{FieldShape, field_shape}
use Rattle.explain_texts.proofs.written.field_tokens.Given as goal

abbrev pub invariant-loop-field : goal.invariant-loop-field
invariant-loop-field l =
    l.tokens.items ≡ map (λ (field : FieldShape). field.name.at) (map field_shape (take l.field-index l.fields))
