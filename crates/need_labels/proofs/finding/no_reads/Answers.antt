use Rattle.std.proofs.Common.{ℕ, ◌≡◌, ◌∙◌, ap, length, [], replicate, arith}
use Rattle.std.proofs.lemmas.List.{length-map}
use Rattle.label_lattice.specs.declared.label.Label.{Label}
use Rattle.jif_tree.specs.Trees.{ProgramTree, field_tree, var_tree}
use Rattle.need_labels.proofs.WholePrograms.{nothing_read}
use Rattle.need_labels.proofs.finding.no_reads.Goals as goal

pub returns : goal.returns
returns c labelled is id =
    let program = c.args.program.now in
    let fields : c.len.result ≡ length labelled.program.fields = omega (
      arith,
      c.len.ensures,
      ap (λ (tree : ProgramTree). length tree.fields) is,
      length-map program.fields.items field_tree,
    ) in
    let vars : c.len-2.result ≡ length labelled.program.vars = omega (
      arith,
      c.len-2.ensures,
      ap (λ (tree : ProgramTree). length tree.vars) is,
      length-map program.vars.items var_tree,
    ) in
    let same : c.len-3.result ≡ length labelled.program.vars = omega (
      arith,
      c.len-3.ensures,
      ap (λ (tree : ProgramTree). length tree.vars) is,
      length-map program.vars.items var_tree,
    ) in
    nothing_read c.args.principals.now labelled _
    (c.in_ok-vec.ensures.items_if_clones_equal (λ label is. is)
    ∙ ap (λ (count : ℕ). replicate count c.bottom.result) fields
    ∙ ap (λ (label : Label). replicate (length labelled.program.fields) label) c.bottom.ensures.value)
    (c.in_ok-no_readers.ensures ∙ ap (λ (count : ℕ). replicate count []) vars)
    (c.in_ok-vec-2.ensures.items_if_clones_equal (λ mark is. is)
    ∙ ap (λ (count : ℕ). replicate {A = ℕ} count 0) same) id
