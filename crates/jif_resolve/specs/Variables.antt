-- The variables of a draft, in order.
use Rattle.std.specs.Prelude.{ℕ, ◌+◌, suc, if◌then◌else◌, List, [], ◌∷◌, ◌++◌, map, length}
use Rattle.std.specs.Prelude.{Option, Some, None}
use Rattle.std.specs.Prelude.{codes}
use Rattle.js_base.specs.declared.ids.VarId.{VarId}
use Rattle.js_base.specs.declared.ids.MethodId.{MethodId}
use Rattle.jif_grammar.specs.DraftShapes.{LabelShape, ParamShape, MethodShape}
use Rattle.jif_resolve.specs.Counts.{locals_in}
use Rattle.jif_resolve.specs.Meanings.{has_result}
use Rattle.jif_resolve.specs.Places.{Place}

-- a variable as it is declared
pub record VariableShape : Type 0 where
  pub method : MethodId
  pub name : List ℕ
  pub label : Option LabelShape

abbrev pub result_variables : MethodId → Option LabelShape → List VariableShape
result_variables method None = []
result_variables method (Some label) =
    record { method = method; name = codes "return"; label = Some label } ∷ []

-- the parameters of a method, then its locals, and last its result, where it has one
abbrev pub method_variables : MethodId → MethodShape → List VariableShape
method_variables number method =
    map (λ param. record { method = number; name = param.name.text; label = Some param.label }) method.params
    ++ map (λ local. record { method = number; name = local.name.text; label = local.label }) (locals_in method.body)
    ++ result_variables number method.result

-- the variables of methods, of which the first has this number
abbrev pub variables_from : ℕ → List MethodShape → List VariableShape
variables_from number [] = []
variables_from number (method ∷ methods) =
    method_variables (record { 0 = number }) method ++ variables_from (suc number) methods

-- a number for each parameter, from this one on
abbrev pub param_ids : ℕ → List ParamShape → List VarId
param_ids number [] = []
param_ids number (param ∷ params) = record { 0 = number } ∷ param_ids (suc number) params

-- the result is the last variable of its method
abbrev pub result_id : Place → MethodShape → Option VarId
result_id head method =
    if has_result method.result
    then Some (record { 0 = head.first + length method.params + length (locals_in method.body) }) else None
