use Rattle.jif_grammar.specs.DraftShapes.{policy_shape}
use Rattle.jif_resolve.specs.Faults.{policy_faults}
use Rattle.jif_resolve.proofs.Cleanly.{clean_at}
use Rattle.jif_resolve.proofs.Parts.{of_none, policies_more}
use Rattle.jif_resolve.proofs.label_of.of_policies.Goals as goal

pub loop-policy-init : goal.loop-policy-init
loop-policy-init c =
    of_none c.args.principals.now c.empty-label.result c.empty-label.ensures.forbids c.empty-label.ensures.trusts
    (c.empty-label.ensures.over c.args.principals.now)

pub with_policy-requires : goal.with_policy-requires
with_policy-requires c =
    clean_at policy_shape (policy_faults c.args.principals.now) c.args.policies.now c.loop-policy.policy-index
    c.policy-item.result c.loop-policy-test.true c.policy-item.is c.requires

pub loop-policy-preserved : goal.loop-policy-preserved
loop-policy-preserved c =
    policies_more c.args.principals.now c.args.policies.now c.loop-policy.policy-index c.policy-item.result
    c.in_ok-label.label c.loop-policy-test.true c.policy-item.is
    (c.in_ok-label.ensures _ c.loop-policy.invariant)
