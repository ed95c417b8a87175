use Rattle.std.proofs.Common.{◌≡◌}
use Rattle.std.specs.List.{flat_map, range_with_len}
use Rattle.plan_ways.specs.Stands.{places_on}
use Rattle.plan_ways.proofs.stands.places_of.Given as goal

-- the places of the hosts so far
abbrev pub invariant-loop-number : goal.invariant-loop-number
invariant-loop-number l = l.places.items ≡ flat_map (places_on l.code l.doors) (range_with_len 0 l.number)
