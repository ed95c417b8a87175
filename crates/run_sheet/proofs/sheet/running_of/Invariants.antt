use Rattle.std.proofs.Common.{◌≡◌, map}
use Rattle.net_world.specs.Fits.{world_of}
use Rattle.net_world.specs.World.{state_at}
use Rattle.run_rows.specs.Rows.{runs_in}
use Rattle.run_sheet.specs.RunSources.{hosts_below}
use Rattle.run_sheet.proofs.sheet.running_of.Given as goal

-- the hosts so far
abbrev pub invariant-loop-number : goal.invariant-loop-number
invariant-loop-number l =
    l.running.items ≡ map (λ host. runs_in (state_at (world_of l.world) host)) (hosts_below l.number)
