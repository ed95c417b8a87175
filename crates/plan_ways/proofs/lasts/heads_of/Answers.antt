use Rattle.plan_ways.proofs.LastWalks.{all_heads}
use Rattle.plan_ways.proofs.lasts.heads_of.Goals as goal

pub returns : goal.returns
returns c =
    all_heads _ _ _ _ c.loop-method-test.false c.deref-method-items.ensures.value c.loop-method.invariant
