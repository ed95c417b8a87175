use Rattle.std.proofs.Common.{sym}
use Rattle.net_world.specs.Fits.{world_of}
use Rattle.split_cli.proofs.ReportLines.{added}
use Rattle.split_cli.proofs.WorldLines.{sent_lines_more}
use Rattle.split_cli.proofs.world_report.sent.push_sent.Goals as goal

pub loop-number-preserved : goal.loop-number-preserved
loop-number-preserved c =
    let within = rw c.sent-sent-items.ensures at c.loop-number-test.true in
    let here = rw c.sent-sent-items.ensures at c.sent-item.is in
    added _ _ _ c.loop-number.invariant c.in_ok-push_message.ensures
    (sent_lines_more c.args.code.now (world_of c.args.world.now).sent c.loop-number.number c.sent-item.result within
    (sym here))
