use Rattle.std.proofs.Common.{◌≡◌, ◌++◌, drop}
use Rattle.plan_ways.specs.Stands.{doors_from}
use Rattle.plan_ways.proofs.stands.doors_of.Given as goal

-- the doors so far, and those of the entries that are left, are the whole
abbrev pub invariant-loop-number : goal.invariant-loop-number
invariant-loop-number l =
    l.doors.items ++ doors_from l.code l.heads l.number (drop l.number l.entries)
    ≡ doors_from l.code l.heads 0 l.entries
