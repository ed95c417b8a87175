use Rattle.std.proofs.Common.{◌≡◌, None, replicate}
use Rattle.node_seals.proofs.seals_file.nothing.Given as goal

-- so many so far
abbrev pub invariant-loop : goal.invariant-loop
invariant-loop g l = l.places.items ≡ replicate l.counter None
