use Rattle.std.proofs.Common.{◌≡◌, None, drop, length, replicate}
use Rattle.plan_ways.specs.Levels.{with_namings}
use Rattle.plan_ways.proofs.levels.namings_of.Given as goal

-- what is noted, and then what the places that are left give, is the whole
abbrev pub invariant-loop-place : goal.invariant-loop-place
invariant-loop-place l =
    with_namings l.code l.table.items (drop l.place-index l.places)
    ≡ with_namings l.code (replicate (length l.code.entries) None) l.places
