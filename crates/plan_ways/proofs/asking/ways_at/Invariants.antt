use Rattle.std.proofs.Common.{◌≡◌, ◌++◌, drop}
use Rattle.std.specs.List.{flat_map}
use Rattle.plan_ways.specs.Ways.{place_ways, sheet_shape}
use Rattle.plan_ways.proofs.asking.ways_at.Given as goal

-- the ways so far, and those at the places that are left, are the whole
abbrev pub invariant-loop-place : goal.invariant-loop-place
invariant-loop-place l =
    l.found.items ++ flat_map (place_ways (sheet_shape l.sheet)) (drop l.place-index l.places)
    ≡ flat_map (place_ways (sheet_shape l.sheet)) l.places
