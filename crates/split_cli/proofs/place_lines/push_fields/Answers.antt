use Rattle.front_end.specs.PlacedShapes.{placed_shape}
use Rattle.split_cli.proofs.ReportLines.{added}
use Rattle.split_cli.proofs.PlanLines.{field_places_more}
use Rattle.split_cli.proofs.place_lines.push_fields.Goals as goal

pub loop-number-preserved : goal.loop-number-preserved
loop-number-preserved c =
    added _ _ _ c.loop-number.invariant c.in_ok-push_field.ensures
    (field_places_more (placed_shape c.args.placed.now) c.args.fields.now c.loop-number.number
    c.index-fields-number.result c.loop-number-test.true c.index-fields-number.is)
