use Rattle.std.proofs.Common.{◌≡◌, ◌≤◌, map, length}
use Rattle.split_rules.specs.ReleaseRows.{parts_told, shown}
use Rattle.split_rules.proofs.releases.all_rows.Given as goal

-- the rows of the hosts so far
abbrev pub invariant-loop-number : goal.invariant-loop-number
invariant-loop-number l =
    (l.hosts.items ≡ parts_told (map shown l.statements) l.code l.number) × (l.number ≤ length l.code.hosts)
