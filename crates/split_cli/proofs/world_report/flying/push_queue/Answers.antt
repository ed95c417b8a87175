use Rattle.std.proofs.Common.{sym}
use Rattle.split_cli.proofs.ReportLines.{added}
use Rattle.split_cli.proofs.WorldLines.{queue_lines_more}
use Rattle.split_cli.proofs.world_report.flying.push_queue.Goals as goal

pub loop-place-preserved : goal.loop-place-preserved
loop-place-preserved c =
    added _ _ _ c.loop-place.invariant c.in_ok-push_message.ensures
    (queue_lines_more c.args.code.now c.args.pair.0.0 c.args.pair.1.0 c.args.queue.now c.loop-place.place
    c.index-queue-place.result c.loop-place-test.true (sym c.index-queue-place.is))
