-- The names and labels that a program is printed with. What has no name there has an empty one.
use Rattle.std.specs.Prelude.{ℕ, List, [], Option, Some, None, slice_get}
use Rattle.js_base.specs.declared.ids.FieldId.{FieldId}
use Rattle.js_base.specs.declared.ids.VarId.{VarId}
use Rattle.js_base.specs.declared.ids.MethodId.{MethodId}
use Rattle.js_base.specs.declared.ids.PrincipalId.{PrincipalId}
use Rattle.principals.specs.ActsFor.{Declared}
use Rattle.label_lattice.specs.declared.label.Label.{Label}
use Rattle.jif_tree.specs.Trees.{FieldTree, VarTree, MethodTree, ProgramTree, program_tree}
use Rattle.jif_parse.specs.declared.printed.names.Names.{Names}

-- a program, and the principals that it was resolved over
pub record Naming : Type 0 where
  pub principals : Declared
  pub program : ProgramTree

abbrev pub naming_of : Names → Naming
naming_of names = record { principals = names.principals.now; program = program_tree names.program.now }

abbrev pub name_of_field : Option FieldTree → List ℕ
name_of_field None = []
name_of_field (Some tree) = tree.name

abbrev pub name_of_variable : Option VarTree → List ℕ
name_of_variable None = []
name_of_variable (Some tree) = tree.name

abbrev pub label_of_variable : Option VarTree → Option Label
label_of_variable None = None
label_of_variable (Some tree) = tree.label

abbrev pub name_of_method : Option MethodTree → List ℕ
name_of_method None = []
name_of_method (Some tree) = tree.name

abbrev pub name_or_none : Option (List ℕ) → List ℕ
name_or_none None = []
name_or_none (Some name) = name

abbrev pub field_name : Naming → FieldId → List ℕ
field_name naming field = name_of_field (slice_get naming.program.fields field.0)

abbrev pub variable_name : Naming → VarId → List ℕ
variable_name naming variable = name_of_variable (slice_get naming.program.vars variable.0)

abbrev pub variable_label : Naming → VarId → Option Label
variable_label naming variable = label_of_variable (slice_get naming.program.vars variable.0)

abbrev pub method_name : Naming → MethodId → List ℕ
method_name naming method = name_of_method (slice_get naming.program.methods method.0)

abbrev pub principal_name : Naming → PrincipalId → List ℕ
principal_name naming principal = name_or_none (slice_get naming.principals.names principal.0)
