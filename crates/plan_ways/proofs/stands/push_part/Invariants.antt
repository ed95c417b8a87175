use Rattle.std.proofs.Common.{◌≡◌, ◌++◌, None, drop}
use Rattle.plan_ways.specs.Stands.{places_from}
use Rattle.plan_ways.proofs.stands.push_part.Given as goal

-- the places so far, and those of the instructions that are left, are the whole
abbrev pub invariant-loop-at : goal.invariant-loop-at
invariant-loop-at l =
    l.places.items ++ places_from l.host l.at l.arrivals l.before (drop l.at l.part)
    ≡ l.initial.places.items ++ places_from l.host 0 l.initial.arrivals None l.part
