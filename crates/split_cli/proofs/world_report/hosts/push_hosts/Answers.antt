use Rattle.net_world.specs.Fits.{world_of}
use Rattle.net_world.specs.World.{state_at}
use Rattle.host_code.specs.MessageText.{host_text}
use Rattle.split_cli.specs.WorldReport.{host_line}
use Rattle.split_cli.proofs.ReportLines.{added}
use Rattle.split_cli.proofs.WorldLines.{range_more}
use Rattle.split_cli.proofs.world_report.hosts.push_hosts.Goals as goal

pub loop-number-preserved : goal.loop-number-preserved
loop-number-preserved c =
    added _ _ _ c.loop-number.invariant c.in_ok-push_host.ensures
    (range_more (λ number. host_line (host_text c.args.code.now (record { 0 = number }))
    (state_at (world_of c.args.world.now) (record { 0 = number }))) c.loop-number.number)
