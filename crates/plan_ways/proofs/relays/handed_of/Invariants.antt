use Rattle.std.proofs.Common.{◌≡◌, None, drop, length, replicate}
use Rattle.plan_ways.specs.Relays.{with_all_handed}
use Rattle.plan_ways.proofs.relays.handed_of.Given as goal

-- what is noted, and then what the places that are left give, is the whole
abbrev pub invariant-loop-place : goal.invariant-loop-place
invariant-loop-place l =
    with_all_handed l.code l.levels l.handed.items (drop l.place-index l.places)
    ≡ with_all_handed l.code l.levels (replicate (length l.code.entries) None) l.places
