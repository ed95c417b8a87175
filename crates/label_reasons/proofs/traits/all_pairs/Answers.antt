use Rattle.label_reasons.specs.Listed.{pairs_of}
use Rattle.label_reasons.proofs.TraitLists.{flat_more}
use Rattle.label_reasons.proofs.traits.all_pairs.Goals as goal

pub loop-owner-preserved : goal.loop-owner-preserved
loop-owner-preserved c =
    rw c.in_ok-push_pairs.ensures
    (flat_more (pairs_of c.args.principals.now) c.loop-owner.pairs.items c.loop-owner.owner c.loop-owner.invariant)
