use Rattle.std.proofs.Common.{◌<◌}
use Rattle.js_base.specs.declared.ids.HostId.{HostId}
use Rattle.net_world.specs.Fits.{world_of}
use Rattle.net_world.specs.Secret.{FlyOpenly}
use Rattle.net_world.proofs.world.World.fly_openly.Given as goal

-- all from each host so far may be seen
abbrev pub invariant-loop-from : goal.invariant-loop-from
invariant-loop-from l = record {
  openly : (earlier : HostId) → earlier.0 < l.from → (to : HostId) → FlyOpenly l.code (world_of l.self) earlier to;
}
