use Rattle.front_end.specs.PlacedShapes.{placed_shape}
use Rattle.split_cli.proofs.ReportLines.{added}
use Rattle.split_cli.proofs.PlanLines.{statement_places_at}
use Rattle.split_cli.proofs.place_lines.push_statements.Goals as goal

pub loop-number-preserved : goal.loop-number-preserved
loop-number-preserved c =
    added _ _ _ c.loop-number.invariant c.in_ok-push_statement.ensures
    (statement_places_at (placed_shape c.args.placed.now) c.args.lines.now c.loop-number.number _
    c.loop-number-test.true)
