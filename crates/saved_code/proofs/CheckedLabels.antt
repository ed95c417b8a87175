-- The labels that the label check finds for variables are joins and meets of labels that are read, so they are labels.
use Rattle.std.proofs.Common.{◌≡◌, ℕ, zero, suc, ◌≤◌, All, List, [], ◌∷◌, ◌++◌, map, length, Option, Some, None, refl}
use Rattle.std.specs.Prelude.{slice_get, slice_set, unwrap_or}
use Rattle.std.specs.List.{flat_map}
use Rattle.std.proofs.lemmas.List.Elements.{All-nil, All-cons, All-head, All-tail}
use Rattle.js_base.specs.declared.ids.FieldId.{FieldId}
use Rattle.js_base.specs.declared.ids.VarId.{VarId}
use Rattle.principals.specs.ActsFor.{Declared}
use Rattle.label_lattice.specs.declared.label.Label.{Label}
use Rattle.label_lattice.specs.Label.{IsLabel}
use Rattle.label_lattice.specs.Lattice.{empty_label, join_of}
use Rattle.label_lattice.proofs.Values.{join_is_label, empty_is_label}
use Rattle.jif_tree.specs.LabelRules.{MethodSetting, VariableLabels, setting_of, expr_label, field_label, guarded}
use Rattle.jif_tree.specs.LabelRules.{labels_after_assignment, labels_after, labels_after_methods}
use Rattle.jif_tree.specs.LabelRules.{declared_labels, variable_labels}
use Rattle.jif_tree.specs.Trees.{BlockTree, done, set_local, set_field, set_element, branch, loop, call, give_back}
use Rattle.jif_tree.specs.Trees.{MethodTree, ProgramTree}
use Rattle.jif_tree.specs.WrittenLabels.{written_in, written_in_block}
use Rattle.jif_grammar.specs.DraftShapes.{DraftShape}
use Rattle.jif_resolve.specs.Resolved.{IsTreeOf}
use Rattle.msg_cost.proofs.Bounds.{all_left, all_right}
use Rattle.saved_code.specs.ProgramLabels.{HasLabels}
use Rattle.saved_code.proofs.RealLabels.{AreRealNames, label_real, guarded_real, field_real}
use Rattle.saved_code.proofs.ResolvedLabels.{IsRealMethod, labels_read}

-- ---- assignments

-- each variable has a label, if only the empty one
abbrev AreReal : VariableLabels → Type 0
AreReal labels = (place : ℕ) → IsLabel (unwrap_or (unwrap_or (slice_get labels place) None) empty_label)

set_real : (labels : VariableLabels) (label : Label) → IsLabel label → AreReal labels → (place : ℕ) →
    AreReal (slice_set labels place (Some label))
set_real [] label is real place other = empty_is_label
set_real (first ∷ labels) label is real zero zero = is
set_real (first ∷ labels) label is real zero (suc other) = real (suc other)
set_real (first ∷ labels) label is real (suc place) zero = real zero
set_real (first ∷ labels) label is real (suc place) (suc other) =
    set_real labels label is (λ next. real (suc next)) place other

assigned_real : (labels : VariableLabels) (x : VarId) (label : Label) → IsLabel label → AreReal labels →
    (found : Option (Option Label)) → slice_get labels x.0 ≡ found → AreReal (labels_after_assignment labels x label)
assigned_real labels x label is real None there = rw there real
assigned_real labels x label is real (Some None) there = rw there (set_real labels label is real x.0)
assigned_real labels x label is real (Some (Some declared)) there = rw there real

-- ---- blocks

-- what an expression or a block may read
names_of : (setting : MethodSetting) (labels : VariableLabels) → length setting.principals.names ≤ 63 →
    ((field : FieldId) → IsLabel (field_label setting.program field)) → AreReal labels → AreRealNames setting labels
names_of setting labels few fields real = record { few = few; fields = fields; variables = λ x. real x.0 }

-- the labels behind a block
block_real : (setting : MethodSetting) → length setting.principals.names ≤ 63 →
    ((field : FieldId) → IsLabel (field_label setting.program field)) → (pc : Label) (labels : VariableLabels) →
    IsLabel pc → AreReal labels → (block : BlockTree) → All IsLabel (written_in_block block) →
    AreReal (labels_after setting pc labels block)
block_real setting few fields pc labels under real done written = real
block_real setting few fields pc labels under real (set_local heading x value rest) written =
    let own = expr_label setting pc labels value in
    let is =
    label_real setting pc labels (names_of setting labels few fields real) under value
    (all_left IsLabel (written_in value) (written_in_block rest) written) in
    block_real setting few fields pc (labels_after_assignment labels x (join_of own pc)) under
    (assigned_real labels x (join_of own pc) (join_is_label own pc is under) real (slice_get labels x.0) refl) rest
    (all_right IsLabel (written_in value) (written_in_block rest) written)
block_real setting few fields pc labels under real (set_field heading field value rest) written =
    block_real setting few fields pc labels under real rest
    (all_right IsLabel (written_in value) (written_in_block rest) written)
block_real setting few fields pc labels under real (set_element heading field index value rest) written =
    block_real setting few fields pc labels under real rest
    (all_right IsLabel (written_in index ++ written_in value) (written_in_block rest) written)
block_real setting few fields pc labels under real (branch heading guard first second rest) written =
    let firsts = written_in guard ++ written_in_block first in
    let blocks = all_left IsLabel (firsts ++ written_in_block second) (written_in_block rest) written in
    let front = all_left IsLabel firsts (written_in_block second) blocks in
    let label = guarded setting pc labels guard in
    let inside =
    guarded_real setting pc labels (names_of setting labels few fields real) under guard
    (all_left IsLabel (written_in guard) (written_in_block first) front) in
    let between = labels_after setting label labels first in
    let after = labels_after setting label between second in
    block_real setting few fields pc after under
    (block_real setting few fields label between inside
    (block_real setting few fields label labels inside real first
    (all_right IsLabel (written_in guard) (written_in_block first) front)) second
    (all_right IsLabel firsts (written_in_block second) blocks)) rest
    (all_right IsLabel (firsts ++ written_in_block second) (written_in_block rest) written)
block_real setting few fields pc labels under real (loop heading guard body rest) written =
    let firsts = written_in guard ++ written_in_block body in
    let front = all_left IsLabel firsts (written_in_block rest) written in
    let label = guarded setting pc labels guard in
    let inside =
    guarded_real setting pc labels (names_of setting labels few fields real) under guard
    (all_left IsLabel (written_in guard) (written_in_block body) front) in
    block_real setting few fields pc (labels_after setting label labels body) under
    (block_real setting few fields label labels inside real body
    (all_right IsLabel (written_in guard) (written_in_block body) front)) rest
    (all_right IsLabel firsts (written_in_block rest) written)
block_real setting few fields pc labels under real (call heading site method arguments into rest) written =
    block_real setting few fields pc labels under real rest
    (all_right IsLabel (flat_map written_in arguments) (written_in_block rest) written)
block_real setting few fields pc labels under real (give_back heading value rest) written =
    block_real setting few fields pc labels under real rest
    (all_right IsLabel (written_in value) (written_in_block rest) written)

-- ---- programs

methods_real : (principals : Declared) (program : ProgramTree) → length principals.names ≤ 63 →
    ((field : FieldId) → IsLabel (field_label program field)) → (labels : VariableLabels) → AreReal labels →
    (methods : List MethodTree) → All IsRealMethod methods →
    AreReal (labels_after_methods principals program labels methods)
methods_real principals program few fields labels real [] all = real
methods_real principals program few fields labels real (method ∷ methods) all =
    let setting = setting_of principals program method in
    let own = All-head IsRealMethod method methods all in
    methods_real principals program few fields (labels_after setting method.begin labels method.body)
    (block_real setting few fields method.begin labels own.0 real method.body own.1) methods
    (All-tail IsRealMethod method methods all)

all_real : (labels : VariableLabels) → AreReal labels → All IsLabel (map (λ label. unwrap_or label empty_label) labels)
all_real [] real = All-nil IsLabel
all_real (label ∷ labels) real =
    All-cons IsLabel (unwrap_or label empty_label) (map (λ other. unwrap_or other empty_label) labels) (real zero)
    (all_real labels (λ place. real (suc place)))

-- a program that was resolved, with the labels of its variables and any labels of its statements
pub has_labels : (principals : Declared) (draft : DraftShape) (tree : ProgramTree) (pc : List Label) →
    length principals.names ≤ 63 → IsTreeOf principals draft tree →
    HasLabels (record { program = tree; var_labels = variable_labels principals tree; pc = pc })
has_labels principals draft tree pc few is =
    let read = labels_read principals draft tree is in
    record {
      fields = read.fields;
      variables = all_real (labels_after_methods principals tree (declared_labels tree) tree.methods)
          (methods_real principals tree few (λ field. field_real tree field read.fields) (declared_labels tree)
          read.variables tree.methods read.methods);
      methods = read.methods;
    }
