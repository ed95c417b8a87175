use Rattle.std.proofs.Common.{◌≡◌, map, take}
use Rattle.net_world.specs.World.{named_host}
use Rattle.net_world.proofs.matching.are_hosts_of.Given as goal

-- the hosts so far are those of the code
abbrev pub invariant-loop-place : goal.invariant-loop-place
invariant-loop-place l = record {
  same : map named_host (take l.place l.rows) ≡ take l.place l.named;
}
