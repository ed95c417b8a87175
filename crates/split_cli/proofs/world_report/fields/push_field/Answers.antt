use Rattle.std.proofs.Common.{◌++◌, ap, ◌∙◌}
use Rattle.std.specs.String.{string_bytes}
use Rattle.std.proofs.lemmas.Result.{on_ok_weaker}
use Rattle.split_cli.proofs.WorldLines.{field_shown}
use Rattle.split_cli.proofs.world_report.fields.push_field.Goals as goal

pub returns : goal.returns
returns c =
    on_ok_weaker c.push_row_line.result
    (λ pushed. pushed ∙ ap (λ text. string_bytes c.args.text.now ++ text)
    (field_shown c.args.world.now c.args.number c.args.field.now c.host.result c.name.result.now c.size.result
    c.deref.result.now c.in-Some.host.now (rw c.in-Some.is at c.host-2.ensures) c.host.ensures c.name.ensures
    c.size.ensures (c.deref.ensures.value ∙ c.in_ok-row.ensures)))
    c.push_row_line.ensures
