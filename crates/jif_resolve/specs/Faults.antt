-- The faults of a draft: all of them, in no order that matters.
use Rattle.std.specs.Prelude.{ℕ, Bool, true, false, not, ◌||◌, ◌&&◌, ◌==◌, List, [], ◌∷◌, ◌++◌}
use Rattle.std.specs.Prelude.{length, Option, Some, None}
use Rattle.std.specs.List.{list_any, flat_map}
use Rattle.std.specs.Bool.{nat_lt}
use Rattle.std.specs.Str.{bytes_eq}
use Rattle.principals.specs.ActsFor.{Declared}
use Rattle.jif_grammar.specs.DraftShapes.{NameShape, PolicyShape, LabelShape, ExprShape, number_shape, variable_shape}
use Rattle.jif_grammar.specs.DraftShapes.{element_shape, complement_shape, negation_shape, binary_shape}
use Rattle.jif_grammar.specs.DraftShapes.{release_shape, endorsement_shape, BlockShape, end_shape}
use Rattle.jif_grammar.specs.DraftShapes.{declaration_shape, assignment_shape, element_assignment_shape}
use Rattle.jif_grammar.specs.DraftShapes.{branch_shape, loop_shape, call_shape, return_shape, ParamShape}
use Rattle.jif_grammar.specs.DraftShapes.{MethodShape, DraftShape}
use Rattle.jif_resolve.specs.declared.fault.Fault.{Fault}
use Rattle.jif_resolve.specs.declared.fault.FaultKind.{FaultKind}
use Rattle.jif_resolve.specs.declared.fault.FaultKind.TheVariants.{UnknownName, Twice, WrongType, WrongCount}
use Rattle.jif_resolve.specs.Meanings.{Global, has_result, globals_of}
use Rattle.jif_resolve.specs.Places.{Setting, Place, after_variable, after_statement, after_call}
use Rattle.jif_resolve.specs.Places.{after_declaration, after_block, head_after, body_place, meaning_at}
use Rattle.jif_resolve.specs.declared.meaning.Meaning.{Meaning}
use Rattle.jif_resolve.specs.declared.meaning.Meaning.TheVariants as sense

abbrev pub fault : ℕ → FaultKind → Fault
fault at kind = record { at = at; kind = kind }

-- a fault of this kind, where there is one
abbrev pub fault_where : Bool → FaultKind → ℕ → List Fault
fault_where false kind at = []
fault_where true kind at = fault at kind ∷ []

-- ---- labels

-- a name that is no declared principal
abbrev pub principal_faults : Declared → NameShape → List Fault
principal_faults principals name =
    fault_where (not (list_any (bytes_eq name.text) principals.names)) UnknownName name.at

abbrev pub principals_faults : Declared → List NameShape → List Fault
principals_faults principals names = flat_map (principal_faults principals) names

abbrev pub policy_faults : Declared → PolicyShape → List Fault
policy_faults principals policy =
    principal_faults principals policy.owner ++ principals_faults principals policy.readers

abbrev pub trust_faults : Declared → Option (List NameShape) → List Fault
trust_faults principals None = []
trust_faults principals (Some members) = principals_faults principals members

abbrev pub label_faults : Declared → LabelShape → List Fault
label_faults principals label =
    flat_map (policy_faults principals) label.policies ++ trust_faults principals label.trust

abbrev pub optional_label_faults : Declared → Option LabelShape → List Fault
optional_label_faults principals None = []
optional_label_faults principals (Some label) = label_faults principals label

-- ---- declared names

-- an earlier field, array or method has its name
abbrev pub is_global_before : List Global → NameShape → Bool
is_global_before globals name =
    list_any (λ other. bytes_eq name.text other.name.text && nat_lt other.name.at name.at) globals

abbrev pub global_faults : List Global → NameShape → List Fault
global_faults globals name = fault_where (is_global_before globals name) Twice name.at

-- A parameter or a local has a name of its own: none of a field, an array or a method, wherever that stands, and none
-- of an earlier parameter or local of its method.
abbrev pub local_faults : Setting → Place → NameShape → List Fault
local_faults setting place name =
    fault_where (list_any (λ global. bytes_eq name.text global.name.text) setting.globals
    || list_any (bytes_eq name.text) place.earlier) Twice name.at

-- ---- used names

-- a name whose value is read or that is assigned to: a plain field, a parameter or a local
abbrev pub variable_faults : ℕ → Option Meaning → List Fault
variable_faults at None = fault_where true UnknownName at
variable_faults at (Some (sense.Variable variable)) = []
variable_faults at (Some (sense.Plain field)) = []
variable_faults at (Some (sense.Array field)) = fault_where true WrongType at
variable_faults at (Some (sense.Method method params gives)) = fault_where true WrongType at

-- a name of which an element is read or assigned to
abbrev pub array_faults : ℕ → Option Meaning → List Fault
array_faults at None = fault_where true UnknownName at
array_faults at (Some (sense.Variable variable)) = fault_where true WrongType at
array_faults at (Some (sense.Plain field)) = fault_where true WrongType at
array_faults at (Some (sense.Array field)) = []
array_faults at (Some (sense.Method method params gives)) = fault_where true WrongType at

-- a name that keeps the result of a call: a parameter or a local
abbrev pub keeper_faults : ℕ → Option Meaning → List Fault
keeper_faults at None = fault_where true UnknownName at
keeper_faults at (Some (sense.Variable variable)) = []
keeper_faults at (Some (sense.Plain field)) = fault_where true WrongType at
keeper_faults at (Some (sense.Array field)) = fault_where true WrongType at
keeper_faults at (Some (sense.Method method params gives)) = fault_where true WrongType at

abbrev pub same_truth : Bool → Bool → Bool
same_truth true other = other
same_truth false other = not other

-- a name that is called with so many arguments: a method with as many parameters, whose result is kept where it has one
abbrev pub called_faults : ℕ → Bool → ℕ → Option Meaning → List Fault
called_faults at keeps args None = fault_where true UnknownName at
called_faults at keeps args (Some (sense.Variable variable)) = fault_where true WrongType at
called_faults at keeps args (Some (sense.Plain field)) = fault_where true WrongType at
called_faults at keeps args (Some (sense.Array field)) = fault_where true WrongType at
called_faults at keeps args (Some (sense.Method method params gives)) =
    fault_where (not (same_truth keeps gives)) WrongType at ++ fault_where (not (args == params)) WrongCount at

-- ---- expressions

abbrev pub expr_faults : Setting → Place → ExprShape → List Fault
expr_faults setting place (number_shape value) = []
expr_faults setting place (variable_shape name) = variable_faults name.at (meaning_at setting place name.text)
expr_faults setting place (element_shape name index) =
    array_faults name.at (meaning_at setting place name.text) ++ expr_faults setting place index
expr_faults setting place (complement_shape operand) = expr_faults setting place operand
expr_faults setting place (negation_shape operand) = expr_faults setting place operand
expr_faults setting place (binary_shape operator left right) =
    expr_faults setting place left ++ expr_faults setting place right
expr_faults setting place (release_shape inner label) =
    expr_faults setting place inner ++ label_faults setting.principals label
expr_faults setting place (endorsement_shape inner label) =
    expr_faults setting place inner ++ label_faults setting.principals label

-- ---- statements

abbrev pub into_faults : Setting → Place → Option NameShape → List Fault
into_faults setting place None = []
into_faults setting place (Some name) = keeper_faults name.at (meaning_at setting place name.text)

abbrev pub is_kept : Option NameShape → Bool
is_kept None = false
is_kept (Some name) = true

-- the faults of a call without those of what may stand behind it
abbrev pub call_faults : Setting → Place → NameShape → List ExprShape → Option NameShape → List Fault
call_faults setting place name args into =
    called_faults name.at (is_kept into) (length args) (meaning_at setting place name.text)
    ++ into_faults setting place into ++ flat_map (expr_faults setting place) args

-- the faults of the statements from this place on
abbrev pub block_faults : Setting → Place → BlockShape → List Fault
block_faults setting place end_shape = []
block_faults setting place (declaration_shape start label name value rest) =
    optional_label_faults setting.principals label ++ local_faults setting place name
    ++ expr_faults setting place value ++ block_faults setting (after_declaration place name) rest
block_faults setting place (assignment_shape start name value rest) =
    variable_faults name.at (meaning_at setting place name.text) ++ expr_faults setting place value
    ++ block_faults setting (after_statement place) rest
block_faults setting place (element_assignment_shape start name index value rest) =
    array_faults name.at (meaning_at setting place name.text) ++ expr_faults setting place index
    ++ expr_faults setting place value ++ block_faults setting (after_statement place) rest
block_faults setting place (branch_shape start guard first second rest) =
    let inside = after_statement place in
    let between = after_block inside first in
    expr_faults setting place guard ++ block_faults setting inside first ++ block_faults setting between second
    ++ block_faults setting (after_block between second) rest
block_faults setting place (loop_shape start guard body rest) =
    let inside = after_statement place in
    expr_faults setting place guard ++ block_faults setting inside body
    ++ block_faults setting (after_block inside body) rest
block_faults setting place (call_shape start name args into rest) =
    call_faults setting place name args into ++ block_faults setting (after_call place) rest
block_faults setting place (return_shape start value rest) =
    fault_where (not setting.gives) WrongType start.at ++ expr_faults setting place value
    ++ block_faults setting (after_statement place) rest

-- ---- methods and programs

abbrev pub params_faults : Setting → Place → List ParamShape → List Fault
params_faults setting place [] = []
params_faults setting place (param ∷ params) =
    label_faults setting.principals param.label ++ local_faults setting place param.name
    ++ params_faults setting (after_variable place param.name) params

-- whether the last statement is a `return`
abbrev pub ends_in_return : BlockShape → Bool
ends_in_return end_shape = false
ends_in_return (declaration_shape start label name value rest) = ends_in_return rest
ends_in_return (assignment_shape start name value rest) = ends_in_return rest
ends_in_return (element_assignment_shape start name index value rest) = ends_in_return rest
ends_in_return (branch_shape start guard first second rest) = ends_in_return rest
ends_in_return (loop_shape start guard body rest) = ends_in_return rest
ends_in_return (call_shape start name args into rest) = ends_in_return rest
ends_in_return (return_shape start value end_shape) = true
ends_in_return (return_shape start value rest) = ends_in_return rest

abbrev pub setting_of : Declared → List Global → MethodShape → Setting
setting_of principals globals method =
    record { principals = principals; globals = globals; gives = has_result method.result }

-- the faults of a method, its own name aside, whose head stands at this place
abbrev pub method_faults : Setting → Place → MethodShape → List Fault
method_faults setting head method =
    optional_label_faults setting.principals method.result ++ label_faults setting.principals method.begin
    ++ params_faults setting head method.params ++ principals_faults setting.principals method.authority
    ++ fault_where (setting.gives && not (ends_in_return method.body)) WrongType method.name.at
    ++ block_faults setting (body_place head method) method.body

-- the faults of methods that stand after these
abbrev pub methods_faults : Declared → List Global → List MethodShape → List MethodShape → List Fault
methods_faults principals globals before [] = []
methods_faults principals globals before (method ∷ methods) =
    method_faults (setting_of principals globals method) (head_after before) method
    ++ methods_faults principals globals (before ++ method ∷ []) methods

abbrev pub faults_of : Declared → DraftShape → List Fault
faults_of principals draft =
    let globals = globals_of draft in
    flat_map (λ global. global_faults globals global.name) globals
    ++ flat_map (λ field. label_faults principals field.label) draft.fields
    ++ methods_faults principals globals [] draft.methods
