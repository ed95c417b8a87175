use Rattle.std.proofs.Common.{◌≡◌, map}
use Rattle.std.specs.List.{range_with_len}
use Rattle.label_reasons.specs.declared.reason.Trait.TheVariants.{Distrusts}
use Rattle.label_reasons.proofs.traits.all_distrusts.Given as goal

-- the principals so far are there
abbrev pub invariant-loop-principal : goal.invariant-loop-principal
invariant-loop-principal l = l.distrusts.items ≡ map (λ one. Distrusts one) (range_with_len 0 l.principal)
