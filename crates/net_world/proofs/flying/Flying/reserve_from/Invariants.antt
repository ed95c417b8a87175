use Rattle.std.proofs.Common.{◌≡◌, ◌<◌}
use Rattle.js_base.specs.declared.ids.HostId.{HostId}
use Rattle.net_world.specs.Flying.{HasRoom, pair_place, flights_of}
use Rattle.net_world.proofs.flying.Flying.reserve_from.Given as goal

-- there is room to the hosts below
abbrev pub invariant-loop-to : goal.invariant-loop-to
invariant-loop-to l = record {
  flights : flights_of l.self.queues ≡ flights_of l.fn.self.queues;
  readable : l.self.readable ≡ l.fn.self.readable;
  room : (to : HostId) → to.0 < l.to → HasRoom l.self.queues (pair_place l.from to);
}
