-- Variables that are added to those before them, while the variables of a program are made.
use Rattle.std.specs.Prelude.{◌≡◌, List, [], ◌++◌, map, Some}
use Rattle.std.specs.List.{AllZip, flat_map}
use Rattle.js_base.specs.declared.ids.MethodId.{MethodId}
use Rattle.principals.specs.ActsFor.{Declared}
use Rattle.jif_tree.specs.declared.program.Var.{Var}
use Rattle.jif_tree.specs.Trees.{var_tree}
use Rattle.jif_grammar.specs.DraftShapes.{ParamShape, BlockShape}
use Rattle.jif_resolve.specs.Counts.{LocalShape, locals_in}
use Rattle.jif_resolve.specs.Faults.{optional_label_faults}
use Rattle.jif_resolve.specs.Variables.{VariableShape}
use Rattle.jif_resolve.specs.Resolved.{IsVariableFor}

abbrev pub param_variable : MethodId → ParamShape → VariableShape
param_variable method param = record { method = method; name = param.name.text; label = Some param.label }

abbrev pub local_variable : MethodId → LocalShape → VariableShape
local_variable method local = record { method = method; name = local.name.text; label = local.label }

abbrev pub local_variables : MethodId → BlockShape → List VariableShape
local_variables method block = map (local_variable method) (locals_in block)

-- each name in the labels is that of a declared principal
abbrev pub AreLabelled : Declared → List VariableShape → Type 0
AreLabelled principals variables =
    flat_map (λ variable. optional_label_faults principals variable.label) variables ≡ []

-- whatever the variables before are, the new ones are these and then those that were added
abbrev pub AddsVariables : Declared → List VariableShape → List Var → List Var → Type 0
AddsVariables principals added old new = (before : List VariableShape) →
    AllZip (IsVariableFor principals) before (map var_tree old) →
    AllZip (IsVariableFor principals) (before ++ added) (map var_tree new)
