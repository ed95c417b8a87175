-- The program of a draft: what each name stands for, and how all is numbered.
use Rattle.std.specs.Prelude.{◌≡◌, List, [], ◌∷◌, ◌++◌}
use Rattle.std.specs.Prelude.{Option, Some, None}
use Rattle.std.specs.Option.{option_map}
use Rattle.std.specs.List.{AllZip}
use Rattle.js_base.specs.declared.ids.FieldId.{FieldId}
use Rattle.js_base.specs.declared.ids.VarId.{VarId}
use Rattle.js_base.specs.declared.ids.MethodId.{MethodId}
use Rattle.principals.specs.ActsFor.{Declared}
use Rattle.label_lattice.specs.declared.label.Label.{Label}
use Rattle.label_lattice.specs.Written.{AreKnown}
use Rattle.jif_tree.specs.Trees.{ExprTree, number, local, scalar, element, inverted, negated, binary, declassified}
use Rattle.jif_tree.specs.Trees.{endorsed, Heading, BlockTree, done, set_local, set_field, set_element, branch, loop}
use Rattle.jif_tree.specs.Trees.{call, give_back, FieldTree, VarTree, MethodTree, ProgramTree}
use Rattle.jif_grammar.specs.DraftShapes.{NameShape, ExprShape, number_shape, variable_shape}
use Rattle.jif_grammar.specs.DraftShapes.{element_shape, complement_shape, negation_shape, binary_shape}
use Rattle.jif_grammar.specs.DraftShapes.{release_shape, endorsement_shape, Start, BlockShape, end_shape}
use Rattle.jif_grammar.specs.DraftShapes.{declaration_shape, assignment_shape, element_assignment_shape}
use Rattle.jif_grammar.specs.DraftShapes.{branch_shape, loop_shape, call_shape, return_shape, FieldShape}
use Rattle.jif_grammar.specs.DraftShapes.{MethodShape, DraftShape}
use Rattle.jif_resolve.specs.Variables.{VariableShape, variables_from, param_ids, result_id}
use Rattle.jif_resolve.specs.Meanings.{Global, globals_of, main_of}
use Rattle.jif_resolve.specs.Places.{Setting, Place, next_variable, after_statement, after_call, after_declaration}
use Rattle.jif_resolve.specs.Places.{after_block, head_after, body_place, meaning_at}
use Rattle.jif_resolve.specs.Faults.{setting_of}
use Rattle.jif_resolve.specs.Labels.{texts, IsLabelFor, IsOptionalLabelFor}
use Rattle.jif_resolve.specs.declared.meaning.Meaning.{Meaning}
use Rattle.jif_resolve.specs.declared.meaning.Meaning.TheVariants as sense

-- ---- what a name becomes; nothing where it can't be used so

abbrev pub variable_tree : Option Meaning → Option ExprTree
variable_tree (Some (sense.Variable variable)) = Some (local variable)
variable_tree (Some (sense.Plain field)) = Some (scalar field)
variable_tree other = None

abbrev pub array_of : Option Meaning → Option FieldId
array_of (Some (sense.Array field)) = Some field
array_of other = None

abbrev pub local_of : Option Meaning → Option VarId
local_of (Some (sense.Variable variable)) = Some variable
local_of other = None

abbrev pub method_of : Option Meaning → Option MethodId
method_of (Some (sense.Method method params gives)) = Some method
method_of other = None

-- the assignment of a value to a name, before the statements behind it
abbrev pub assignment_tree : Heading → Option Meaning → ExprTree → BlockTree → Option BlockTree
assignment_tree heading (Some (sense.Variable variable)) value rest = Some (set_local heading variable value rest)
assignment_tree heading (Some (sense.Plain field)) value rest = Some (set_field heading field value rest)
assignment_tree heading other value rest = None

-- ---- expressions

abbrev pub IsExprFor : Setting → Place → ExprShape → ExprTree → Type 0
IsExprFor setting place (number_shape value) tree = tree ≡ number value
IsExprFor setting place (variable_shape name) tree =
    variable_tree (meaning_at setting place name.text) ≡ Some tree
IsExprFor setting place (element_shape name index) tree =
    (field : FieldId) × (inner : ExprTree) × (tree ≡ element field inner)
    × (array_of (meaning_at setting place name.text) ≡ Some field) × IsExprFor setting place index inner
IsExprFor setting place (complement_shape operand) tree =
    (inner : ExprTree) × (tree ≡ inverted inner) × IsExprFor setting place operand inner
IsExprFor setting place (negation_shape operand) tree =
    (inner : ExprTree) × (tree ≡ negated inner) × IsExprFor setting place operand inner
IsExprFor setting place (binary_shape operator left right) tree =
    (first : ExprTree) × (second : ExprTree) × (tree ≡ binary operator first second)
    × IsExprFor setting place left first × IsExprFor setting place right second
IsExprFor setting place (release_shape operand written) tree =
    (inner : ExprTree) × (label : Label) × (tree ≡ declassified inner label)
    × IsExprFor setting place operand inner × IsLabelFor setting.principals written label
IsExprFor setting place (endorsement_shape operand written) tree =
    (inner : ExprTree) × (label : Label) × (tree ≡ endorsed inner label)
    × IsExprFor setting place operand inner × IsLabelFor setting.principals written label

-- ---- statements

-- statements are numbered in the order of the text
abbrev pub heading_of : Place → Start → Heading
heading_of place start = record { id = record { 0 = place.statement }; line = start.line }

-- where the result of a call goes, where it is kept
abbrev pub into_tree : Setting → Place → Option NameShape → Option (Option VarId)
into_tree setting place None = Some None
into_tree setting place (Some name) = option_map Some (local_of (meaning_at setting place name.text))

-- the tree has the statements from this place on
abbrev pub IsBlockFor : Setting → Place → BlockShape → BlockTree → Type 0
IsBlockFor setting place end_shape tree = tree ≡ done
IsBlockFor setting place (declaration_shape start written name value rest) tree =
    (first : ExprTree) × (behind : BlockTree)
    × (tree ≡ set_local (heading_of place start) (next_variable place) first behind)
    × IsExprFor setting place value first × IsBlockFor setting (after_declaration place name) rest behind
IsBlockFor setting place (assignment_shape start name value rest) tree =
    (first : ExprTree) × (behind : BlockTree)
    × (assignment_tree (heading_of place start) (meaning_at setting place name.text) first behind ≡ Some tree)
    × IsExprFor setting place value first × IsBlockFor setting (after_statement place) rest behind
IsBlockFor setting place (element_assignment_shape start name index value rest) tree =
    (field : FieldId) × (first : ExprTree) × (second : ExprTree) × (behind : BlockTree)
    × (tree ≡ set_element (heading_of place start) field first second behind)
    × (array_of (meaning_at setting place name.text) ≡ Some field)
    × IsExprFor setting place index first × IsExprFor setting place value second
    × IsBlockFor setting (after_statement place) rest behind
IsBlockFor setting place (branch_shape start guard first second rest) tree =
    let inside = after_statement place in
    let between = after_block inside first in
    (test : ExprTree) × (one : BlockTree) × (other : BlockTree) × (behind : BlockTree)
    × (tree ≡ branch (heading_of place start) test one other behind)
    × IsExprFor setting place guard test × IsBlockFor setting inside first one
    × IsBlockFor setting between second other × IsBlockFor setting (after_block between second) rest behind
IsBlockFor setting place (loop_shape start guard body rest) tree =
    let inside = after_statement place in
    (first : ExprTree) × (second : BlockTree) × (behind : BlockTree)
    × (tree ≡ loop (heading_of place start) first second behind)
    × IsExprFor setting place guard first × IsBlockFor setting inside body second
    × IsBlockFor setting (after_block inside body) rest behind
IsBlockFor setting place (call_shape start name args into rest) tree =
    (method : MethodId) × (values : List ExprTree) × (kept : Option VarId) × (behind : BlockTree)
    × (tree ≡ call (heading_of place start) (record { 0 = place.site }) method values kept behind)
    × (method_of (meaning_at setting place name.text) ≡ Some method)
    × (into_tree setting place into ≡ Some kept)
    × AllZip (IsExprFor setting place) args values × IsBlockFor setting (after_call place) rest behind
IsBlockFor setting place (return_shape start value rest) tree =
    (first : ExprTree) × (behind : BlockTree) × (tree ≡ give_back (heading_of place start) first behind)
    × IsExprFor setting place value first × IsBlockFor setting (after_statement place) rest behind

-- ---- fields and variables

pub record IsFieldFor (principals : Declared) (field : FieldShape) (tree : FieldTree) : Type 0 where
  pub name : tree.name ≡ field.name.text
  pub label : IsLabelFor principals field.label tree.label
  pub size : tree.size ≡ field.size
  pub array : tree.array ≡ field.array
  pub first : tree.first ≡ field.first

pub record IsVariableFor (principals : Declared) (variable : VariableShape) (tree : VarTree) : Type 0 where
  pub method : tree.method ≡ variable.method
  pub name : tree.name ≡ variable.name
  pub label : IsOptionalLabelFor principals variable.label tree.label

-- ---- methods and programs

-- the tree is this method, whose head stands at this place
pub record IsMethodFor (setting : Setting) (head : Place) (method : MethodShape) (tree : MethodTree) : Type 0 where
  pub name : tree.name ≡ method.name.text
  pub begin : IsLabelFor setting.principals method.begin tree.begin
  pub params : tree.params ≡ param_ids head.first method.params
  pub result : tree.result ≡ result_id head method
  pub authority : AreKnown setting.principals (texts method.authority) tree.authority
  pub head_is : tree.head ≡ record { 0 = head.statement }
  pub line : tree.line ≡ method.line
  pub body : IsBlockFor setting (body_place head method) method.body tree.body

-- the trees are these methods, which stand after those
abbrev pub AreMethodsFor : Declared → List Global → List MethodShape → List MethodShape → List MethodTree →
    Type 0
AreMethodsFor principals globals before [] trees = trees ≡ []
AreMethodsFor principals globals before (method ∷ methods) trees =
    (first : MethodTree) × (others : List MethodTree) × (trees ≡ first ∷ others)
    × IsMethodFor (setting_of principals globals method) (head_after before) method first
    × AreMethodsFor principals globals (before ++ method ∷ []) methods others

-- the tree has what the draft says, with numbers in place of names
pub record IsTreeOf (principals : Declared) (draft : DraftShape) (tree : ProgramTree) : Type 0 where
  pub fields : AllZip (IsFieldFor principals) draft.fields tree.fields
  pub vars : AllZip (IsVariableFor principals) (variables_from 0 draft.methods) tree.vars
  pub methods : AreMethodsFor principals (globals_of draft) [] draft.methods tree.methods
  pub main : main_of draft ≡ Some tree.main
