use Rattle.std.proofs.Common.{◌∷◌, map, take}
use Rattle.jif_tree.specs.LabelRules.{method_at, begin_label, params_of}
use Rattle.need_labels.specs.Needs.{for_label, label_of}
use Rattle.need_labels.specs.Finding.{IsBackedBy, labelled_at}
use Rattle.need_labels.proofs.backing.call_backing.Given as goal

-- the parameters so far
abbrev pub invariant-loop-param : goal.invariant-loop-param
invariant-loop-param l =
    let labelled = labelled_at l.place in
    let called = method_at labelled.program l.fn.method in
    IsBackedBy l.place.principals.now
    (map for_label (begin_label called ∷ map (label_of labelled) (take l.param-index (params_of called)))) l.backing
