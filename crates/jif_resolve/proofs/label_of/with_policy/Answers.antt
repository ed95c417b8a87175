use Rattle.jif_grammar.specs.DraftShapes.{policy_shape}
use Rattle.jif_resolve.proofs.Parts.{of_policy}
use Rattle.jif_resolve.proofs.label_of.with_policy.Goals as goal

pub returns : goal.returns
returns c parts is =
    of_policy c.args.principals.now (policy_shape c.args.policy.now) c.known_principal-owner.result
    c.in_ok-readers.readers.items c.args.label c.with_policy.result c.known_principal-owner.ensures.known
    (rw c.deref.ensures.value at c.in_ok-readers.ensures.known)
    (rw c.deref-2.ensures.value at c.with_policy.ensures.forbids) c.with_policy.ensures.trusts
    c.with_policy.ensures.over parts is
