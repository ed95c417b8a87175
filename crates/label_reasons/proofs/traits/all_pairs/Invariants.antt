use Rattle.std.proofs.Common.{◌≡◌, flat_map}
use Rattle.std.specs.List.{range_with_len}
use Rattle.label_reasons.specs.Listed.{pairs_of}
use Rattle.label_reasons.proofs.traits.all_pairs.Given as goal

-- the pairs of the owners so far are there
abbrev pub invariant-loop-owner : goal.invariant-loop-owner
invariant-loop-owner l = l.pairs.items ≡ flat_map (pairs_of l.principals) (range_with_len 0 l.owner)
