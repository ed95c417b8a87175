use Rattle.net_world.specs.Fits.{world_of}
use Rattle.net_world.specs.World.{state_at}
use Rattle.run_rows.specs.Rows.{runs_in}
use Rattle.run_sheet.proofs.HostLists.{host_added}
use Rattle.run_sheet.proofs.sheet.running_of.Goals as goal

pub loop-number-preserved : goal.loop-number-preserved
loop-number-preserved c =
    host_added (λ host. runs_in (state_at (world_of c.args.world.now) host)) c.loop-number.running.items
    c.push.new.self.items c.runs_on.result c.loop-number.number c.loop-number.invariant c.in_ok-push.ensures.items
    c.runs_on.ensures
