use Rattle.std.proofs.Common.{sym, ap, ◌∙◌}
use Rattle.std.specs.Prelude.{Some}
use Rattle.std.specs.Option.{option_map}
use Rattle.jif_tree.specs.Trees.{program_tree, method_tree}
use Rattle.need_labels.specs.Labelled.{labelled_of}
use Rattle.place_reasons.specs.Reasons.{method_told, told_reason}
use Rattle.place_reasons.proofs.Firsts.{first_mapped}
use Rattle.place_reasons.proofs.Within.{told_within}
use Rattle.place_reasons.proofs.fields.told_row.Goals as goal

pub told_reason-requires-clause-held : goal.told_reason-requires-clause-held
told_reason-requires-clause-held c =
    let search = c.args.search.now in
    let labelled = labelled_of search.checked.now in
    told_within search.principals.now c.count-count.ensures.declared labelled c.args.host.now c.args.field
    search.checked.now.program.methods.items c.in-Some.told
    (sym (first_mapped (method_told search.principals.now labelled c.args.host.now c.args.field) method_tree
    search.checked.now.program.methods.items) ∙ sym c.requires.told ∙ c.in-Some.is)

pub returns-in_ok-reason-in-Some-clause-reason : goal.returns-in_ok-reason-in-Some-clause-reason
returns-in_ok-reason-in-Some-clause-reason c =
    let search = c.args.search.now in
    let told_of = told_reason search.principals.now (program_tree search.checked.now.program) c.args.field in
    ap Some c.in_ok-reason-in-Some.ensures.reason ∙ ap (option_map told_of) (sym c.in-Some.is ∙ c.requires.told)

pub returns-in-None-clause-reason : goal.returns-in-None-clause-reason
returns-in-None-clause-reason c =
    let search = c.args.search.now in
    let told_of = told_reason search.principals.now (program_tree search.checked.now.program) c.args.field in
    ap (option_map told_of) (sym c.in-None.is ∙ c.requires.told)
