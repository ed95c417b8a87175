use Rattle.std.proofs.Common.{◌≡◌}
use Rattle.std.specs.List.{range_with_len}
use Rattle.place_reasons.specs.Firsts.{first_some}
use Rattle.place_reasons.specs.Reasons.{untrusting}
use Rattle.place_reasons.proofs.pairs.first_untrusting.Given as goal

-- the first of the principals so far
abbrev pub invariant-loop-principal : goal.invariant-loop-principal
invariant-loop-principal l = l.found ≡ first_some (untrusting l.host l.label) (range_with_len 0 l.principal)
