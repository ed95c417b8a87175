use Rattle.net_world.specs.Fits.{world_of}
use Rattle.split_cli.specs.WorldReport.{messages_in, queue_lines}
use Rattle.split_cli.proofs.ReportLines.{added}
use Rattle.split_cli.proofs.WorldLines.{messages_fit, range_more}
use Rattle.split_cli.proofs.world_report.flying.push_flying_from.Goals as goal

pub push_queue-requires : goal.push_queue-requires
push_queue-requires c =
    rw c.flying.ensures (messages_fit c.args.code.now c.args.from (record { 0 = c.loop-to.to })
    ((world_of c.args.world.now).flying c.args.from (record { 0 = c.loop-to.to }))
    (c.requires.mail.flying c.args.from (record { 0 = c.loop-to.to })))

pub loop-to-preserved : goal.loop-to-preserved
loop-to-preserved c =
    added _ _ _ c.loop-to.invariant (rw c.flying.ensures at c.in_ok-push_queue.ensures)
    (range_more (λ to. queue_lines c.args.code.now c.args.from.0 to 0 (messages_in (world_of c.args.world.now)
    c.args.from.0 to)) c.loop-to.to)
