use Rattle.std.proofs.Common.{◌≡◌, None, drop, length, replicate}
use Rattle.host_code.specs.Code.{part_of}
use Rattle.plan_ways.specs.Stands.{entered_all}
use Rattle.plan_ways.proofs.stands.arrivals_of.Given as goal

-- what is noted, and then what the entries that are left give, is the whole
abbrev pub invariant-loop-number : goal.invariant-loop-number
invariant-loop-number l =
    entered_all l.doors l.host l.table.items l.number (drop l.number l.entries)
    ≡ entered_all l.doors l.host (replicate (length (part_of l.code l.host)) None) 0 l.entries
