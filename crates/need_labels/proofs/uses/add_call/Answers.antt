use Rattle.std.proofs.Common.{◌∷◌, ◌++◌, map}
use Rattle.std.proofs.lemmas.Result.{IfOk-weaker}
use Rattle.jif_tree.specs.LabelRules.{method_at, begin_label, params_of}
use Rattle.need_labels.specs.Needs.{label_of, labels_of}
use Rattle.need_labels.specs.Finding.{labelled_at}
use Rattle.need_labels.proofs.uses.add_call.Goals as goal

pub returns : goal.returns
returns c =
    let labelled = labelled_at c.args.place.now in
    let called = method_at labelled.program c.args.method in
    IfOk-weaker c.finish.result _ _
    (λ backed adds. adds c.args.found.now c.args.id _ _
    (begin_label called ∷ map (label_of labelled) (params_of called) ++ labels_of labelled c.args.into)
    c.in_ok-current.ensures c.call_backing-backing.ensures) c.finish.ensures
