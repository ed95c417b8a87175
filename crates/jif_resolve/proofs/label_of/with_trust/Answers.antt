use Rattle.std.proofs.Common.{map}
use Rattle.jif_grammar.specs.DraftShapes.{name_shape}
use Rattle.jif_resolve.proofs.Parts.{of_trust, of_no_trust}
use Rattle.jif_resolve.proofs.label_of.with_trust.Goals as goal

pub returns-in_default : goal.returns-in_default
returns-in_default c parts is =
    rw c.in_default.is (of_no_trust c.args.principals.now c.args.label parts is)

pub returns : goal.returns
returns c parts is =
    rw c.in-Some.is
    (of_trust c.args.principals.now (map name_shape c.in-Some.members.items) c.in_ok-known.known.items c.args.label
    c.with_trust.result (rw c.deref.ensures.value at c.in_ok-known.ensures.known) c.with_trust.ensures.forbids
    (rw c.deref-2.ensures.value at c.with_trust.ensures.trusts) c.with_trust.ensures.over parts is)
