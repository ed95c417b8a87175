use Rattle.label_reasons.specs.declared.reason.Trait.TheVariants.{Keeps}
use Rattle.label_reasons.proofs.TraitLists.{mapped_more}
use Rattle.label_reasons.proofs.traits.push_pairs.Goals as goal

pub loop-reader-preserved : goal.loop-reader-preserved
loop-reader-preserved c =
    rw c.in_ok-push.ensures.items
    (mapped_more (λ reader. Keeps c.args.owner reader) c.args.pairs.now.items c.loop-reader.pairs.items
    c.loop-reader.reader c.loop-reader.invariant)
