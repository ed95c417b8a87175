use Rattle.std.proofs.Common.{◌∙◌, ap}
use Rattle.split_cli.specs.Check.{accepted_line}
use Rattle.front_end.specs.PlacedShapes.{PlacedModel, placed_shape}
use Rattle.front_end.specs.Text.{line_text}
use Rattle.split_cli.proofs.PlanLines.{report_text}
use Rattle.split_cli.proofs.ReportLines.{from_ok}
use Rattle.split_cli.proofs.commands.check.plan_text.Goals as goal

pub returns : goal.returns
returns c =
    report_text (placed_shape c.args.placed.now) _ _ _ _
    (c.in_ok-text.ensures
    ∙ ap (λ (placed : PlacedModel). line_text (accepted_line (placed_shape placed).source.tree)) c.placed.view_is)
    c.in_ok-push_places.ensures c.cost-cost.ensures
    (from_ok c.writeln.result c.in_ok-map_err.ensures.variant c.writeln.ensures.bytes)
