use Rattle.std.proofs.Common.{◌≡◌, ◌<◌, length, get_or}
use Rattle.js_base.specs.declared.ids.HostId.{HostId}
use Rattle.js_base.specs.declared.limits.TheConstants.{HOSTS}
use Rattle.msg_cost.specs.Tables.{IsTrustedSince}
use Rattle.msg_cost.proofs.table.block_table.Given as goal

-- the table has the places of the hosts so far
abbrev pub invariant-loop-number : goal.invariant-loop-number
invariant-loop-number l = record {
  long : length l.table ≡ HOSTS;
  since : (host : HostId) → host.0 < l.number →
      IsTrustedSince l.needs l.hosts host l.block (get_or l.table host.0 0);
}
