use Rattle.jif_grammar.specs.DraftShapes.{label_shape}
use Rattle.jif_resolve.proofs.Parts.{clean_label}
use Rattle.jif_resolve.proofs.label_of.label_of.Goals as goal

pub of_policies-requires : goal.of_policies-requires
of_policies-requires c =
    rw c.deref.ensures.value (clean_label c.args.principals.now (label_shape c.args.written.now) c.requires).0

pub with_trust-requires : goal.with_trust-requires
with_trust-requires c = (clean_label c.args.principals.now (label_shape c.args.written.now) c.requires).1
