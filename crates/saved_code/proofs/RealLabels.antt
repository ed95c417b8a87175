-- The labels that a walk takes from a program are labels.
use Rattle.std.proofs.Common.{ℕ, zero, suc, ◌≤◌, ◌<◌, ◌^◌, List, [], ◌∷◌, map, length, Some, None, arith, All}
use Rattle.std.proofs.Common.{slice_get}
use Rattle.std.specs.Prelude.{slice_index, unwrap_or}
use Rattle.std.specs.Option.{option_map}
use Rattle.std.proofs.lemmas.List.Elements.{All-head, All-tail}
use Rattle.std.proofs.lemmas.Nat.{or_lt}
use Rattle.js_base.specs.declared.ids.FieldId.{FieldId}
use Rattle.js_base.specs.declared.ids.StmtId.{StmtId}
use Rattle.js_base.specs.declared.ids.VarId.{VarId}
use Rattle.label_lattice.specs.declared.label.Label.{Label}
use Rattle.label_lattice.specs.Label.{IsLabel}
use Rattle.label_lattice.specs.Lattice.{empty_label, join_of}
use Rattle.label_lattice.proofs.Values.{join_is_label, meet_is_label, empty_is_label, bottom_is_label}
use Rattle.jif_tree.specs.Trees.{ExprTree, number, local, scalar, element, inverted, negated, binary, declassified}
use Rattle.jif_tree.specs.Trees.{endorsed, FieldTree, ProgramTree}
use Rattle.jif_tree.specs.LabelRules.{MethodSetting, VariableLabels, variable_label, field_label, expr_label, guarded}
use Rattle.jif_tree.specs.WrittenLabels.{written_in}
use Rattle.msg_cost.specs.Moves.{PlannedShape}
use Rattle.msg_cost.proofs.Bounds.{all_left, all_right}
use Rattle.split_rules.specs.Walk.{need_of}

-- ---- needs

word_at : (words : List ℕ) (place : ℕ) → All (λ word. word < 2 ^ 64) words → slice_index words place < 2 ^ 64
word_at [] place all = omega arith
word_at (word ∷ words) zero all = All-head (λ one. one < 2 ^ 64) word words all
word_at (word ∷ words) (suc place) all = word_at words place (All-tail (λ one. one < 2 ^ 64) word words all)

pub need_real : (planned : PlannedShape) → All (λ need. need < 2 ^ 64) planned.needs.need → (statements : List StmtId) →
    need_of planned statements < 2 ^ 64
need_real planned all [] = omega arith
need_real planned all (statement ∷ others) =
    or_lt 64 (slice_index planned.needs.need statement.0) (need_of planned others)
    (word_at planned.needs.need statement.0 all) (need_real planned all others)

-- ---- labels of what has a name

label_or_empty : (labels : List Label) (place : ℕ) → All IsLabel labels →
    IsLabel (unwrap_or (unwrap_or (slice_get (map Some labels) place) None) empty_label)
label_or_empty [] place all = empty_is_label
label_or_empty (label ∷ labels) zero all = All-head IsLabel label labels all
label_or_empty (label ∷ labels) (suc place) all = label_or_empty labels place (All-tail IsLabel label labels all)

pub variable_real : (labels : List Label) (x : VarId) → All IsLabel labels →
    IsLabel (variable_label (map Some labels) x)
variable_real labels x all = label_or_empty labels x.0 all

label_of_field : (fields : List FieldTree) (place : ℕ) → All (λ field. IsLabel field.label) fields →
    IsLabel (unwrap_or (option_map (λ tree. tree.label) (slice_get fields place)) empty_label)
label_of_field [] place all = empty_is_label
label_of_field (field ∷ fields) zero all = All-head (λ (one : FieldTree). IsLabel one.label) field fields all
label_of_field (field ∷ fields) (suc place) all =
    label_of_field fields place (All-tail (λ (one : FieldTree). IsLabel one.label) field fields all)

pub field_real : (program : ProgramTree) (field : FieldId) → All (λ field. IsLabel field.label) program.fields →
    IsLabel (field_label program field)
field_real program field all = label_of_field program.fields field.0 all

-- the labels that expressions read
pub record AreRealNames (setting : MethodSetting) (labels : VariableLabels) : Type 0 where
  pub few : length setting.principals.names ≤ 63
  pub fields : (field : FieldId) → IsLabel (field_label setting.program field)
  pub variables : (x : VarId) → IsLabel (variable_label labels x)

-- ---- expressions

pub label_real : (setting : MethodSetting) (pc : Label) (labels : VariableLabels) → AreRealNames setting labels →
    IsLabel pc → (expr : ExprTree) → All IsLabel (written_in expr) → IsLabel (expr_label setting pc labels expr)
label_real setting pc labels names under (number value) real = bottom_is_label setting.principals names.few
label_real setting pc labels names under (local x) real = names.variables x
label_real setting pc labels names under (scalar field) real = names.fields field
label_real setting pc labels names under (element field index) real =
    join_is_label (field_label setting.program field) (expr_label setting pc labels index) (names.fields field)
    (label_real setting pc labels names under index real)
label_real setting pc labels names under (inverted operand) real = label_real setting pc labels names under operand real
label_real setting pc labels names under (negated operand) real = label_real setting pc labels names under operand real
label_real setting pc labels names under (binary operator left right) real =
    join_is_label (expr_label setting pc labels left) (expr_label setting pc labels right)
    (label_real setting pc labels names under left
    (all_left IsLabel (written_in left) (written_in right) real))
    (label_real setting pc labels names under right (all_right IsLabel (written_in left) (written_in right) real))
label_real setting pc labels names under (declassified operand label) real =
    let written = join_of label pc in
    let inner = all_left IsLabel (written_in operand) (label ∷ []) real in
    let own = All-head IsLabel label [] (all_right IsLabel (written_in operand) (label ∷ []) real) in
    let value = expr_label setting pc labels operand in
    meet_is_label (join_of written empty_label) value
    (join_is_label written empty_label (join_is_label label pc own under) empty_is_label)
    (label_real setting pc labels names under operand inner)
label_real setting pc labels names under (endorsed operand label) real =
    let written = join_of label pc in
    let inner = all_left IsLabel (written_in operand) (label ∷ []) real in
    let own = All-head IsLabel label [] (all_right IsLabel (written_in operand) (label ∷ []) real) in
    let value = expr_label setting pc labels operand in
    meet_is_label (join_of value empty_label) written
    (join_is_label value empty_label (label_real setting pc labels names under operand inner) empty_is_label)
    (join_is_label label pc own under)

pub guarded_real : (setting : MethodSetting) (pc : Label) (labels : VariableLabels) → AreRealNames setting labels →
    IsLabel pc → (guard : ExprTree) → All IsLabel (written_in guard) → IsLabel (guarded setting pc labels guard)
guarded_real setting pc labels names under guard real =
    join_is_label pc (expr_label setting pc labels guard) under (label_real setting pc labels names under guard real)
