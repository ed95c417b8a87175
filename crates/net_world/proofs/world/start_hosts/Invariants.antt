use Rattle.std.proofs.Common.{◌≡◌, length, take}
use Rattle.net_world.specs.World.{hosts_before}
use Rattle.net_world.specs.Fits.{states_of, HostsFit}
use Rattle.net_world.specs.Steps.{HaveMade}
use Rattle.net_world.proofs.world.start_hosts.Given as goal

-- the hosts of the rows so far
abbrev pub invariant-loop-number : goal.invariant-loop-number
invariant-loop-number l = record {
  count : length l.hosts.items ≡ l.number;
  states : states_of l.hosts.items ≡ hosts_before l.code l.store l.bad 0 (take l.number l.rows);
  fits : HostsFit l.code l.hosts.items;
  fresh : HaveMade 0 l.hosts.items;
}
