use Rattle.std.proofs.Common.{◌≡◌, take}
use Rattle.control_split.specs.Tables.{code_hosts}
use Rattle.control_split.proofs.tables.code_hosts.Given as goal

-- the hosts so far
abbrev pub invariant-loop-host : goal.invariant-loop-host
invariant-loop-host l =
    l.rows.items ≡ code_hosts (take l.host-index l.hosts)
