-- What labels the variables of expressions have: each has one where its expression stands.
use Rattle.std.specs.Prelude.{List, [], ◌∷◌, ⊤}
use Rattle.std.specs.List.{AllByRecursion}
use Rattle.principals.specs.ActsFor.{Declared}
use Rattle.label_lattice.specs.declared.label.Label.{Label}
use Rattle.label_lattice.specs.Lattice.{join_of}
use Rattle.jif_tree.specs.Trees.{ExprTree, number, local, scalar, element, inverted, negated, binary, declassified}
use Rattle.jif_tree.specs.Trees.{endorsed, BlockTree, done, set_local, set_field, set_element, branch, loop}
use Rattle.jif_tree.specs.Trees.{call, give_back, MethodTree, ProgramTree}
use Rattle.jif_tree.specs.LabelRules.{MethodSetting, VariableLabels, labels_after_assignment, labels_after, expr_label}
use Rattle.jif_tree.specs.LabelRules.{guarded, setting_of}
use Rattle.jif_tree.specs.Labelling.{IsLabelled}

-- each variable of an expression has a label
abbrev pub IsExprLabelled : VariableLabels → ExprTree → Type 0
IsExprLabelled labels (number value) = ⊤
IsExprLabelled labels (local x) = IsLabelled labels x
IsExprLabelled labels (scalar field) = ⊤
IsExprLabelled labels (element field index) = IsExprLabelled labels index
IsExprLabelled labels (inverted operand) = IsExprLabelled labels operand
IsExprLabelled labels (negated operand) = IsExprLabelled labels operand
IsExprLabelled labels (binary operator left right) = IsExprLabelled labels left × IsExprLabelled labels right
IsExprLabelled labels (declassified operand label) = IsExprLabelled labels operand
IsExprLabelled labels (endorsed operand label) = IsExprLabelled labels operand

-- Each variable that a statement reads has a label where it stands: it was declared before.
abbrev pub AreValuesLabelled : MethodSetting → Label → VariableLabels → BlockTree → Type 0
AreValuesLabelled setting pc labels done = ⊤
AreValuesLabelled setting pc labels (set_local heading x value rest) =
    IsExprLabelled labels value
    × AreValuesLabelled setting pc (labels_after_assignment labels x (join_of (expr_label setting pc labels value) pc))
    rest
AreValuesLabelled setting pc labels (set_field heading field value rest) =
    IsExprLabelled labels value × AreValuesLabelled setting pc labels rest
AreValuesLabelled setting pc labels (set_element heading field index value rest) =
    IsExprLabelled labels index × IsExprLabelled labels value × AreValuesLabelled setting pc labels rest
AreValuesLabelled setting pc labels (branch heading guard first second rest) =
    let inside = guarded setting pc labels guard in
    let between = labels_after setting inside labels first in
    IsExprLabelled labels guard × AreValuesLabelled setting inside labels first
    × AreValuesLabelled setting inside between second
    × AreValuesLabelled setting pc (labels_after setting inside between second) rest
AreValuesLabelled setting pc labels (loop heading guard inner rest) =
    let inside = guarded setting pc labels guard in
    IsExprLabelled labels guard × AreValuesLabelled setting inside labels inner
    × AreValuesLabelled setting pc (labels_after setting inside labels inner) rest
AreValuesLabelled setting pc labels (call heading site method arguments into rest) =
    AllByRecursion (IsExprLabelled labels) arguments × AreValuesLabelled setting pc labels rest
AreValuesLabelled setting pc labels (give_back heading value rest) =
    IsExprLabelled labels value × AreValuesLabelled setting pc labels rest

-- in methods, of which the first is checked with these labels of variables
abbrev pub AreAllValuesLabelled : Declared → ProgramTree → VariableLabels → List MethodTree → Type 0
AreAllValuesLabelled principals program labels [] = ⊤
AreAllValuesLabelled principals program labels (method ∷ methods) =
    let setting = setting_of principals program method in
    AreValuesLabelled setting method.begin labels method.body
    × AreAllValuesLabelled principals program (labels_after setting method.begin labels method.body) methods
