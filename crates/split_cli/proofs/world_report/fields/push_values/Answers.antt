use Rattle.std.proofs.Common.{◌<◌, length}
use Rattle.net_world.specs.Fits.{world_of}
use Rattle.split_cli.proofs.ReportLines.{added}
use Rattle.split_cli.proofs.WorldLines.{field_values_more}
use Rattle.split_cli.proofs.world_report.fields.push_values.Goals as goal

pub loop-number-preserved : goal.loop-number-preserved
loop-number-preserved c =
    let item = rw c.fields-field-items.ensures.fields at c.field-item.is in
    let within : c.loop-number.number < length c.args.code.now.fields =
    rw (← c.fields-field-items.ensures.fields) c.loop-number-test.true in
    added _ _ _ c.loop-number.invariant c.in_ok-push_value.ensures
    (field_values_more (world_of c.args.world.now) c.args.code.now.fields c.loop-number.number
    c.field-item.result within item)
