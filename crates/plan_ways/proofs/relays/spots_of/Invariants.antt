use Rattle.std.proofs.Common.{◌≡◌, drop}
use Rattle.std.specs.Prelude.{slice_set}
use Rattle.plan_ways.specs.Relays.{end_spot, naming_spots, with_backs}
use Rattle.plan_ways.proofs.relays.spots_of.Given as goal

-- what is noted, and then what the places that are left give, is the whole
abbrev pub invariant-loop-place : goal.invariant-loop-place
invariant-loop-place l =
    with_backs l.code l.lasts l.levels l.spots.items (drop l.place-index l.places)
    ≡ with_backs l.code l.lasts l.levels
    (slice_set (naming_spots l.namings) 0 (end_spot l.code l.doors l.lasts)) l.places
