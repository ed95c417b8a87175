use Rattle.std.proofs.Common.{◌<◌}
use Rattle.js_base.specs.declared.ids.HostId.{HostId}
use Rattle.net_world.specs.Choice.{Flies}
use Rattle.net_world.specs.Fits.{world_of}
use Rattle.net_world.proofs.world.World.first_from.Given as goal

-- no message is in flight to the hosts so far
abbrev pub invariant-loop-to : goal.invariant-loop-to
invariant-loop-to l = record {
  none : (earlier : HostId) → earlier.0 < l.to → ¬ Flies (world_of l.self) l.from earlier;
}
