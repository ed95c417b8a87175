use Rattle.std.proofs.Common.{◌≡◌, [], drop, length, map, replicate, vec_items}
use Rattle.plan_ways.specs.Levels.{with_calls}
use Rattle.plan_ways.proofs.levels.behind_calls.Given as goal

-- what is noted, and then what the places that are left give, is the whole
abbrev pub invariant-loop-place : goal.invariant-loop-place
invariant-loop-place l =
    with_calls l.code (map vec_items l.behind.items) (drop l.place-index l.places)
    ≡ with_calls l.code (replicate (length l.code.entries) []) l.places
