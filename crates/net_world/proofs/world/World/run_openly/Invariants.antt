use Rattle.std.proofs.Common.{◌<◌}
use Rattle.std.specs.Prelude.{IfSome}
use Rattle.js_base.specs.declared.ids.HostId.{HostId}
use Rattle.net_world.specs.World.{state_at}
use Rattle.net_world.specs.Fits.{world_of}
use Rattle.net_world.specs.Secret.{RunsOpenly}
use Rattle.net_world.proofs.world.World.run_openly.Given as goal

-- each host so far runs openly
abbrev pub invariant-loop-host : goal.invariant-loop-host
invariant-loop-host l = record {
  openly : (earlier : HostId) → earlier.0 < l.host →
      IfSome (state_at (world_of l.self) earlier) (RunsOpenly l.code (world_of l.self));
}
