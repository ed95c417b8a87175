use Rattle.std.proofs.Common.{◌<◌}
use Rattle.js_base.specs.declared.ids.HostId.{HostId}
use Rattle.net_world.specs.Fits.{world_of}
use Rattle.net_world.specs.Secret.{FlyOpenly}
use Rattle.net_world.proofs.world.World.fly_openly_from.Given as goal

-- all to each host so far may be seen
abbrev pub invariant-loop-to : goal.invariant-loop-to
invariant-loop-to l = record {
  openly : (earlier : HostId) → earlier.0 < l.to → FlyOpenly l.code (world_of l.self) l.from earlier;
}
