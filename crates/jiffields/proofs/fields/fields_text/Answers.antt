use Rattle.std.proofs.Common.{◌<◌, ◌∙◌, ap, length, sym, ◌++◌}
use Rattle.front_end.specs.Text.{lines_text}
use Rattle.jiffields.specs.Fields.{field_line}
use Rattle.jiffields.proofs.FieldTexts.{field_lines_more}
use Rattle.jiffields.proofs.fields.fields_text.Goals as goal

pub loop-number-preserved : goal.loop-number-preserved
loop-number-preserved c =
    let item = rw c.fields-field-items.ensures.fields at c.field-item.is in
    let within : c.loop-number.number < length c.args.code.now.fields =
    rw (← c.fields-field-items.ensures.fields) c.loop-number-test.true in
    c.in_ok-push_field.ensures
    ∙ ap (λ text. text ++ lines_text (field_line c.args.me c.args.host.now.stores.rows c.loop-number.number
    c.field-item.result)) c.loop-number.invariant
    ∙ sym (field_lines_more c.args.me c.args.host.now.stores.rows c.args.code.now.fields c.loop-number.number
    c.field-item.result within item)
