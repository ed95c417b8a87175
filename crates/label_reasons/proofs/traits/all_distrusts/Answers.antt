use Rattle.std.proofs.Common.{[]}
use Rattle.label_reasons.specs.declared.reason.Trait.TheVariants.{Distrusts}
use Rattle.label_reasons.proofs.TraitLists.{mapped_more}
use Rattle.label_reasons.proofs.traits.all_distrusts.Goals as goal

pub loop-principal-preserved : goal.loop-principal-preserved
loop-principal-preserved c =
    rw c.in_ok-push.ensures.items
    (mapped_more (λ principal. Distrusts principal) [] c.loop-principal.distrusts.items c.loop-principal.principal
    c.loop-principal.invariant)
