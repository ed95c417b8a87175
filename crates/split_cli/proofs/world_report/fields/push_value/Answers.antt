use Rattle.std.proofs.Common.{sym, ◌∙◌}
use Rattle.std.proofs.lemmas.Result.{on_ok_weaker}
use Rattle.split_cli.proofs.ReportLines.{added, from_ok}
use Rattle.split_cli.proofs.WorldLines.{value_shown}
use Rattle.split_cli.proofs.world_report.fields.push_value.Goals as goal

pub returns : goal.returns
returns c =
    let wrote = from_ok c.write.result c.in_ok-map_err.ensures.variant c.write.ensures.bytes in
    on_ok_weaker c.push_row.result
    (λ pushed. added _ _ _ wrote pushed
    (sym (value_shown c.args.world.now c.args.number c.args.field.now c.host.result c.name-name.result.now c.size.result
    c.deref.result.now c.in-Some.host.now (rw c.in-Some.is at c.host-2.ensures) c.host.ensures c.name-name.ensures
    c.size.ensures (c.deref.ensures.value ∙ c.in_ok-row.ensures))))
    c.push_row.ensures
