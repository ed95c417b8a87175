use Rattle.net_world.specs.Fits.{world_of}
use Rattle.split_cli.specs.WorldReport.{lines_from}
use Rattle.split_cli.proofs.ReportLines.{added}
use Rattle.split_cli.proofs.WorldLines.{range_more}
use Rattle.split_cli.proofs.world_report.flying.push_flying.Goals as goal

pub loop-from-preserved : goal.loop-from-preserved
loop-from-preserved c =
    added _ _ _ c.loop-from.invariant c.in_ok-push_flying_from.ensures
    (range_more (lines_from c.args.code.now (world_of c.args.world.now)) c.loop-from.from)
