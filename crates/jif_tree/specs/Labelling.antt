-- What labels a program has where they are needed: of its variables where these are set, and of its methods.
use Rattle.std.specs.Prelude.{◌≡◌, ◌<◌, true, List, [], ◌∷◌, All, Option, Some, None, slice_get, ⊤}
use Rattle.std.specs.List.{AllByRecursion}
use Rattle.js_base.specs.declared.ids.VarId.{VarId}
use Rattle.principals.specs.ActsFor.{Declared}
use Rattle.label_lattice.specs.declared.label.Label.{Label}
use Rattle.label_lattice.specs.declared.label.TheConstants.{READERS}
use Rattle.label_lattice.specs.Over.{TrustsOver}
use Rattle.label_lattice.specs.Lattice.{join_of}
use Rattle.jif_tree.specs.Trees.{BlockTree, done, set_local, set_field, set_element, branch, loop, call, give_back}
use Rattle.jif_tree.specs.Trees.{MethodTree, ProgramTree}
use Rattle.jif_tree.specs.LabelRules.{MethodSetting, VariableLabels, labels_after_assignment, labels_after, expr_label}
use Rattle.jif_tree.specs.LabelRules.{guarded, method_at, params_of, setting_of}
use Rattle.jif_tree.specs.Returns.{ReturnsLast}

-- the variable has a label
abbrev pub IsLabelled : VariableLabels → VarId → Type 0
IsLabelled labels x = (label : Label) × (slice_get labels x.0 ≡ Some (Some label))

abbrev pub IsLabelledIfAny : VariableLabels → Option VarId → Type 0
IsLabelledIfAny labels None = ⊤
IsLabelledIfAny labels (Some x) = IsLabelled labels x

-- Parameters, results and what keeps a result have labels where they are set: the first are declared with a label, and
-- the last was set where it was declared.
abbrev pub AreLabelled : MethodSetting → Label → VariableLabels → BlockTree → Type 0
AreLabelled setting pc labels done = ⊤
AreLabelled setting pc labels (set_local heading x value rest) =
    AreLabelled setting pc (labels_after_assignment labels x (join_of (expr_label setting pc labels value) pc)) rest
AreLabelled setting pc labels (set_field heading field value rest) = AreLabelled setting pc labels rest
AreLabelled setting pc labels (set_element heading field index value rest) = AreLabelled setting pc labels rest
AreLabelled setting pc labels (branch heading guard first second rest) =
    let inside = guarded setting pc labels guard in
    let between = labels_after setting inside labels first in
    AreLabelled setting inside labels first × AreLabelled setting inside between second
    × AreLabelled setting pc (labels_after setting inside between second) rest
AreLabelled setting pc labels (loop heading guard inner rest) =
    let inside = guarded setting pc labels guard in
    AreLabelled setting inside labels inner × AreLabelled setting pc (labels_after setting inside labels inner) rest
AreLabelled setting pc labels (call heading site method arguments into rest) =
    AllByRecursion (IsLabelled labels) (params_of (method_at setting.program method)) × IsLabelledIfAny labels into
    × AreLabelled setting pc labels rest
AreLabelled setting pc labels (give_back heading value rest) =
    IsLabelledIfAny labels setting.result × AreLabelled setting pc labels rest

-- A method: what it starts with, and whose authority it has.
pub record IsLabelledMethod (principals : Declared) (program : ProgramTree) (labels : VariableLabels)
    (method : MethodTree) : Type 0 where
  pub labelled : AreLabelled (setting_of principals program method) method.begin labels method.body
  pub begins : TrustsOver principals method.begin
  pub authority : All (λ member. member.0 < READERS) method.authority
  pub returns : ReturnsLast true method.body

-- methods, of which the first is checked with these labels of variables
abbrev pub AreLabelledMethods : Declared → ProgramTree → VariableLabels → List MethodTree → Type 0
AreLabelledMethods principals program labels [] = ⊤
AreLabelledMethods principals program labels (method ∷ methods) =
    IsLabelledMethod principals program labels method
    × AreLabelledMethods principals program
    (labels_after (setting_of principals program method) method.begin labels method.body) methods
