use Rattle.std.proofs.Common.{◌≡◌, map, take}
use Rattle.plan_ways.specs.Relays.{naming_spot}
use Rattle.plan_ways.proofs.relays.naming_spots.Given as goal

-- those of the entries so far
abbrev pub invariant-loop-naming : goal.invariant-loop-naming
invariant-loop-naming l = l.spots.items ≡ map naming_spot (take l.naming-index l.namings)
