use Rattle.std.proofs.Common.{◌≡◌, arith, length, refl, vec_len}
use Rattle.place_texts.proofs.PartsOf.{field_pushed, no_field_pushed}
use Rattle.place_texts.proofs.meant_parts.unheld_field.Goals as goal

pub returns-then-field-len : goal.returns-then-field-len
returns-then-field-len c =
    let program = c.args.program.now in
    let whole : vec_len program.fields ≡ length program.fields.items = omega arith in
    field_pushed program c.args.field.0 c.new-parts.result.items c.push.new.self.items _ c.new-parts.ensures.items
    c.in_ok-push.ensures.items refl (omega (arith, whole, c.len.ensures, c.if-field-len.true))

pub returns : goal.returns
returns c =
    let program = c.args.program.now in
    let whole : vec_len program.fields ≡ length program.fields.items = omega arith in
    no_field_pushed program c.args.field.0 c.new-parts.result.items c.new-parts.ensures.items
    (omega (arith, whole, c.len.ensures, c.if-field-len.false))
