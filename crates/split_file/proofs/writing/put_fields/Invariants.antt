use Rattle.std.proofs.Common.{take}
use Rattle.std.specs.Prelude.{FitsSigned}
use Rattle.std.specs.Int.{w64}
use Rattle.split_file.specs.Spelling.{field_bytes}
use Rattle.split_file.specs.Put.{ArePut}
use Rattle.split_file.proofs.writing.put_fields.Given as goal

abbrev pub invariant-loop-field : goal.invariant-loop-field
invariant-loop-field l =
    ArePut field_bytes (λ field. FitsSigned w64 field.first) l.initial.out.items (take l.field-index l.fields)
    l.out.items
