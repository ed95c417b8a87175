-- What the laws of the rules of labels speak of.
use Rattle.std.specs.Prelude.{List, [], ◌∷◌, ◌++◌}
use Rattle.js_base.specs.declared.ids.FieldId.{FieldId}
use Rattle.js_base.specs.declared.ids.VarId.{VarId}
use Rattle.principals.specs.ActsFor.{IsDeclared}
use Rattle.label_lattice.specs.declared.label.Label.{Label}
use Rattle.label_lattice.specs.Over.{IsLabelOver}
use Rattle.jif_tree.specs.Trees.{ExprTree, number, local, scalar, element, inverted, negated, binary, declassified}
use Rattle.jif_tree.specs.Trees.{endorsed}
use Rattle.jif_tree.specs.LabelRules.{MethodSetting, VariableLabels, field_label, variable_label}

-- the labels of the fields and of the variables are labels over the declared principals
pub record AreNamedOver (setting : MethodSetting) (labels : VariableLabels) : Type 0 where
  pub declared : IsDeclared setting.principals
  pub fields : (field : FieldId) → IsLabelOver setting.principals (field_label setting.program field)
  pub variables : (x : VarId) → IsLabelOver setting.principals (variable_label labels x)

-- the labels of what is read in an expression, but for what is released or endorsed there
abbrev pub read_in : MethodSetting → VariableLabels → ExprTree → List Label
read_in setting labels (number value) = []
read_in setting labels (local x) = variable_label labels x ∷ []
read_in setting labels (scalar field) = field_label setting.program field ∷ []
read_in setting labels (element field index) = field_label setting.program field ∷ read_in setting labels index
read_in setting labels (inverted operand) = read_in setting labels operand
read_in setting labels (negated operand) = read_in setting labels operand
read_in setting labels (binary operator left right) =
    read_in setting labels left ++ read_in setting labels right
read_in setting labels (declassified operand label) = []
read_in setting labels (endorsed operand label) = []
