use Rattle.std.proofs.Common.{◌<◌}
use Rattle.js_base.specs.declared.ids.HostId.{HostId}
use Rattle.net_world.specs.Choice.{Runs}
use Rattle.net_world.specs.Fits.{world_of}
use Rattle.net_world.proofs.world.World.first_running.Given as goal

-- no host so far runs a thread
abbrev pub invariant-loop-number : goal.invariant-loop-number
invariant-loop-number l = record {
  none : (earlier : HostId) → earlier.0 < l.number → ¬ Runs (world_of l.self) earlier;
}
