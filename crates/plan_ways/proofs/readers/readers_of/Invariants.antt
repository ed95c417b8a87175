use Rattle.std.proofs.Common.{◌≡◌, map, vec_items}
use Rattle.std.specs.List.{range_with_len}
use Rattle.plan_ways.specs.Readers.{readers_by_number}
use Rattle.plan_ways.proofs.readers.readers_of.Given as goal

-- the tables of the hosts so far
abbrev pub invariant-loop-number : goal.invariant-loop-number
invariant-loop-number l = map vec_items l.readers.items ≡ map (readers_by_number l.code) (range_with_len 0 l.number)
