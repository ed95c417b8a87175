-- The label check gives each variable of a program a label.
use Rattle.std.proofs.Common.{◌≡◌, List, [], ◌∷◌, length, Option, Some, None, refl, ◌∙◌}
use Rattle.std.specs.Prelude.{slice_get, unwrap_or}
use Rattle.std.proofs.lemmas.List.{length-map, length-set}
use Rattle.js_base.specs.declared.ids.VarId.{VarId}
use Rattle.principals.specs.ActsFor.{Declared}
use Rattle.label_lattice.specs.declared.label.Label.{Label}
use Rattle.label_lattice.specs.Lattice.{empty_label}
use Rattle.jif_tree.specs.Trees.{BlockTree, done, set_local, set_field, set_element, branch, loop, call, give_back}
use Rattle.jif_tree.specs.Trees.{MethodTree, VarTree, ProgramTree}
use Rattle.jif_tree.specs.LabelRules.{MethodSetting, VariableLabels, setting_of, labels_after, labels_after_assignment}
use Rattle.jif_tree.specs.LabelRules.{guarded, labels_after_methods, declared_labels, variable_labels}

after_assignment : (labels : VariableLabels) (x : VarId) (label : Label) (found : Option (Option Label)) →
    slice_get labels x.0 ≡ found → length (labels_after_assignment labels x label) ≡ length labels
after_assignment labels x label None is = rw is refl
after_assignment labels x label (Some None) is = rw is (length-set labels x.0 (Some label))
after_assignment labels x label (Some (Some declared)) is = rw is refl

after_block : (setting : MethodSetting) (pc : Label) (labels : VariableLabels) (block : BlockTree) →
    length (labels_after setting pc labels block) ≡ length labels
after_block setting pc labels done = refl
after_block setting pc labels (set_local heading x value rest) =
    after_block setting pc _ rest ∙ after_assignment labels x _ (slice_get labels x.0) refl
after_block setting pc labels (set_field heading field value rest) = after_block setting pc labels rest
after_block setting pc labels (set_element heading field index value rest) = after_block setting pc labels rest
after_block setting pc labels (branch heading guard first second rest) =
    let inside = guarded setting pc labels guard in
    let between = labels_after setting inside labels first in
    after_block setting pc (labels_after setting inside between second) rest
    ∙ after_block setting inside between second
    ∙ after_block setting inside labels first
after_block setting pc labels (loop heading guard body rest) =
    let inside = guarded setting pc labels guard in
    after_block setting pc (labels_after setting inside labels body) rest
    ∙ after_block setting inside labels body
after_block setting pc labels (call heading site method arguments into rest) = after_block setting pc labels rest
after_block setting pc labels (give_back heading value rest) = after_block setting pc labels rest

after_methods : (principals : Declared) (program : ProgramTree) (labels : VariableLabels) (methods : List MethodTree) →
    length (labels_after_methods principals program labels methods) ≡ length labels
after_methods principals program labels [] = refl
after_methods principals program labels (method ∷ methods) =
    let setting = setting_of principals program method in
    after_methods principals program (labels_after setting method.begin labels method.body) methods
    ∙ after_block setting method.begin labels method.body

pub variable_count : (principals : Declared) (program : ProgramTree) →
    length (variable_labels principals program) ≡ length program.vars
variable_count principals program =
    length-map (labels_after_methods principals program (declared_labels program) program.methods)
    (λ (label : Option Label). unwrap_or label empty_label)
    ∙ after_methods principals program (declared_labels program) program.methods
    ∙ length-map program.vars (λ (variable : VarTree). variable.label)
