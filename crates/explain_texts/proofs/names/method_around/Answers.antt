use Rattle.std.proofs.Common.{◌∙◌, ◌-◌, ℕ, List, ap, sym}
use Rattle.std.specs.Prelude.{count_by, nat_le}
use Rattle.jif_tree.specs.declared.program.Method.{Method}
use Rattle.jif_tree.specs.Trees.{MethodTree, method_tree, program_tree}
use Rattle.explain_texts.specs.Names.{name_at}
use Rattle.explain_texts.proofs.Pieces.{count_mapped}
use Rattle.explain_texts.proofs.names.method_around.Goals as goal

pub returns : goal.returns
returns c =
    let test = λ (method : MethodTree). nat_le method.head.0 c.args.statement.0 in
    c.name_at.ensures
    ∙ ap (name_at (program_tree c.args.program.now)) (c.earlier.ensures
    ∙ ap (λ (n : ℕ). n - 1) (c.heads_before-count.ensures
    ∙ ap (λ (xs : List Method). count_by (λ (method : Method). nat_le method.head.0 c.args.statement.0) xs)
    c.deref.ensures.value
    ∙ sym (count_mapped method_tree test c.args.program.now.methods.items)))
