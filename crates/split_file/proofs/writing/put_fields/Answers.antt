use Rattle.std.proofs.Common.{arith}
use Rattle.std.specs.Prelude.{FitsSigned}
use Rattle.std.specs.Int.{w64}
use Rattle.split_file.specs.Spelling.{field_bytes}
use Rattle.split_file.proofs.Appends.{item_more}
use Rattle.split_file.proofs.writing.put_fields.Goals as goal

pub loop-field-preserved : goal.loop-field-preserved
loop-field-preserved c =
    item_more field_bytes (λ field. FitsSigned w64 field.first) c.args.fields.now c.loop-field.field-index
    c.field-item.result _ _ _ (omega arith) c.field-item.is
    c.loop-field.invariant c.in_ok-put_field.ensures.bytes c.in_ok-put_field.ensures.real
