use Rattle.std.proofs.Common.{◌≡◌, sym, ap, subst, ◌∙◌, List, [], ℕ}
use Rattle.host_code.specs.Code.{CodeShape}
use Rattle.host_code.specs.CodeParts.{shape_of}
use Rattle.byte_format.proofs.Sequels.{ok_is}
use Rattle.split_file.specs.Spelling.{split_file}
use Rattle.split_file.specs.Reading.{code_at}
use Rattle.split_file.specs.File.{IsRealCode}
use Rattle.split_file.proofs.FileLaws.{code_read, code_again, only_memory}
use Rattle.split_file.proofs.reading.read.Goals as goal

pub new-requires : goal.new-requires
new-requires c =
    (code_read c.args.bytes.now (shape_of c.in-Ok.code) c.in-Ok.field-0-1.now (λ i. (c.type_inv.bytes i).fits)
    c.in-Ok.ensures).0.0

pub returns-in-Ok-clause-found : goal.returns-in-Ok-clause-found
returns-in-Ok-clause-found c =
    subst (λ (code : CodeShape). IsRealCode code × (c.args.bytes.now ≡ split_file code)) (sym c.new.ensures)
    (code_read c.args.bytes.now (shape_of c.in-Ok.code) c.in-Ok.field-0-1.now (λ i. (c.type_inv.bytes i).fits)
    c.in-Ok.ensures)

pub returns-in-Ok-clause-only : goal.returns-in-Ok-clause-only
returns-in-Ok-clause-only c code sound spelled =
    let same = ok_is (shape_of c.in-Ok.code, c.in-Ok.field-0-1.now) (code, [])
    (sym c.in-Ok.ensures ∙ ap code_at spelled ∙ code_again code sound) in
    c.new.ensures ∙ ap (λ (p : CodeShape × List ℕ). p.0) same

pub returns-in-Err-clause-only : goal.returns-in-Err-clause-only
returns-in-Err-clause-only c code sound spelled =
    only_memory c.in-Err.error _ c.refusal.result (code_at c.args.bytes.now) (code, []) c.in-Err.ensures
    (ap code_at spelled ∙ code_again code sound) c.refusal.ensures
