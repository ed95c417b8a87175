use Rattle.std.proofs.Common.{◌≡◌, length, vec_len, ap, arith, sym, ◌∙◌}
use Rattle.std.proofs.lemmas.List.{length-map}
use Rattle.jif_tree.specs.Trees.{program_tree, field_tree, method_tree}
use Rattle.need_labels.specs.Labelled.{Labelled}
use Rattle.split_cli.proofs.Accepted.{accepted_text}
use Rattle.split_cli.proofs.LabelCounts.{label_count}
use Rattle.split_cli.proofs.commands.check.accepted.Goals as goal

pub returns : goal.returns
returns c =
    let source = c.source.inside in
    let program = source.checked.program in
    let labels = source.checked.pc in
    let fields : vec_len program.fields ≡ length program.fields.items = omega arith in
    let methods : vec_len program.methods ≡ length program.methods.items = omega arith in
    let statements : vec_len labels ≡ length labels.items = omega arith in
    let counted = label_count source.hosts.principals (program_tree program) labels.items
    (ap (λ (labelled : Labelled). labelled.pc) c.source.invariant.labelled) in
    rw (← c.source.view_is) (accepted_text (program_tree program) _ _ _ _
    (c.len-fields.ensures ∙ fields ∙ sym (length-map program.fields.items field_tree))
    (c.len-methods.ensures ∙ methods ∙ sym (length-map program.methods.items method_tree))
    (c.len-statements.ensures ∙ statements ∙ counted) c.in_ok-format.ensures.ok)
