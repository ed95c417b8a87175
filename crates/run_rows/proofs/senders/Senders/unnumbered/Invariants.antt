use Rattle.std.proofs.Common.{◌<◌}
use Rattle.js_base.specs.declared.ids.HostId.{HostId}
use Rattle.net_world.specs.Fits.{world_of}
use Rattle.run_rows.specs.Senders.{IsLonger}
use Rattle.run_rows.proofs.senders.Senders.unnumbered.Given as goal

-- to no host so far is more in flight than has a number
abbrev pub invariant-loop-to : goal.invariant-loop-to
invariant-loop-to l = (other : HostId) → other.0 < l.to → ¬ IsLonger l.self (world_of l.world) l.from other
