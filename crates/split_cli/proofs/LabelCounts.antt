-- A program has a program label for each of its statements.
use Rattle.std.proofs.Common.{◌≡◌, suc, List, [], ◌∷◌, length, map, refl, ap, ◌∙◌, arith}
use Rattle.std.specs.List.{flat_map}
use Rattle.std.proofs.lemmas.List.{length-append, length-map}
use Rattle.principals.specs.ActsFor.{Declared}
use Rattle.label_lattice.specs.declared.label.Label.{Label}
use Rattle.label_lattice.specs.Lattice.{join_of}
use Rattle.jif_tree.specs.Trees.{BlockTree, done, set_local, set_field, set_element, branch, loop, call, give_back}
use Rattle.jif_tree.specs.Trees.{MethodTree, ProgramTree}
use Rattle.jif_tree.specs.LabelRules.{MethodSetting, VariableLabels, setting_of, expr_label, labels_after}
use Rattle.jif_tree.specs.LabelRules.{labels_after_assignment, guarded, block_labels, methods_labels}
use Rattle.jif_tree.specs.LabelRules.{declared_labels, program_labels}
use Rattle.jif_tree.specs.Numbering.{block_statements, statement_numbers}

of_block : (setting : MethodSetting) (pc : Label) (labels : VariableLabels) (block : BlockTree) →
    length (block_labels setting pc labels block) ≡ length (block_statements block)
of_block setting pc labels done = refl
of_block setting pc labels (set_local heading x value rest) =
    ap suc (of_block setting pc
    (labels_after_assignment labels x (join_of (expr_label setting pc labels value) pc)) rest)
of_block setting pc labels (set_field heading field value rest) =
    ap suc (of_block setting pc labels rest)
of_block setting pc labels (set_element heading field index value rest) =
    ap suc (of_block setting pc labels rest)
of_block setting pc labels (branch heading guard first second rest) =
    let inside = guarded setting pc labels guard in
    let between = labels_after setting inside labels first in
    let one = of_block setting inside labels first in
    let two = of_block setting inside between second in
    let three = of_block setting pc (labels_after setting inside between second) rest in
    simp length-append (omega arith)
of_block setting pc labels (loop heading guard body rest) =
    let inside = guarded setting pc labels guard in
    let one = of_block setting inside labels body in
    let two = of_block setting pc (labels_after setting inside labels body) rest in
    simp length-append (omega arith)
of_block setting pc labels (call heading site method arguments into rest) =
    ap suc (of_block setting pc labels rest)
of_block setting pc labels (give_back heading value rest) =
    ap suc (of_block setting pc labels rest)

of_methods : (principals : Declared) (program : ProgramTree) (labels : VariableLabels) (methods : List MethodTree) →
    length (methods_labels principals program labels methods)
    ≡ length (flat_map (λ (method : MethodTree). method.head.0 ∷ block_statements method.body) methods)
of_methods principals program labels [] = refl
of_methods principals program labels (method ∷ methods) =
    let setting = setting_of principals program method in
    let one = of_block setting method.begin labels method.body in
    let two =
    of_methods principals program (labels_after setting method.begin labels method.body) methods in
    simp length-append (omega arith)

-- a program label for each statement, as the check keeps them
pub label_count : (principals : Declared) (program : ProgramTree) (labels : List Label) →
    labels ≡ map (λ statement. statement.pc) (program_labels principals program) →
    length labels ≡ length (statement_numbers program)
label_count principals program labels are =
    ap length are ∙ length-map (program_labels principals program) (λ statement. statement.pc)
    ∙ of_methods principals program (declared_labels program) program.methods
