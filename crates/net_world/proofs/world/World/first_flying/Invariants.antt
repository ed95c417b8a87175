use Rattle.std.proofs.Common.{◌<◌}
use Rattle.js_base.specs.declared.ids.HostId.{HostId}
use Rattle.net_world.specs.Choice.{NothingFliesFrom}
use Rattle.net_world.specs.Fits.{world_of}
use Rattle.net_world.proofs.world.World.first_flying.Given as goal

-- no host so far has a message in flight
abbrev pub invariant-loop-from : goal.invariant-loop-from
invariant-loop-from l = record {
  none : (earlier : HostId) → earlier.0 < l.from → NothingFliesFrom (world_of l.self) earlier;
}
