use Rattle.jif_grammar.specs.DraftShapes.{method_shape}
use Rattle.jif_resolve.proofs.VariableLists.{method_labelled}
use Rattle.jif_resolve.proofs.variables.push_method.Goals as goal

pub push_params-requires : goal.push_params-requires
push_params-requires c =
    rw c.deref.ensures.value
    (method_labelled c.args.principals.now c.args.method (method_shape c.args.draft.now) c.requires).0

pub push_locals-requires : goal.push_locals-requires
push_locals-requires c =
    rw c.deref-2.ensures.value
    (method_labelled c.args.principals.now c.args.method (method_shape c.args.draft.now) c.requires).1

pub push_result-requires : goal.push_result-requires
push_result-requires c =
    (method_labelled c.args.principals.now c.args.method (method_shape c.args.draft.now) c.requires).2
