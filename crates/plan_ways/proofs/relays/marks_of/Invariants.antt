use Rattle.std.proofs.Common.{◌≡◌, drop, false, replicate}
use Rattle.plan_ways.specs.Relays.{with_ends}
use Rattle.plan_ways.proofs.relays.marks_of.Given as goal

-- what is marked, and then what the ways that are left give, is the whole
abbrev pub invariant-loop-way : goal.invariant-loop-way
invariant-loop-way l =
    with_ends l.marks.items (drop l.way-index l.ways) ≡ with_ends (replicate l.count false) l.ways
