-- The labels of a program whose names are resolved are labels over the declared principals.
use Rattle.std.proofs.Common.{◌≡◌, List, [], ◌∷◌, ◌++◌, All, Option, Some, None, sym, subst}
use Rattle.std.specs.List.{AllZip, flat_map}
use Rattle.std.proofs.lemmas.List.Elements.{All-append, All-cons, All-head, All-nil, All-tail}
use Rattle.principals.specs.ActsFor.{Declared, IsDeclared, AreDeclared}
use Rattle.label_lattice.specs.declared.label.Label.{Label}
use Rattle.label_lattice.specs.Over.{IsLabelOver}
use Rattle.jif_tree.specs.LabelRules.{declared_labels}
use Rattle.jif_tree.specs.Trees.{BlockTree, set_local, set_field, Heading, ExprTree, local, scalar}
use Rattle.jif_tree.specs.Trees.{FieldTree, MethodTree, ProgramTree, VarTree}
use Rattle.jif_tree.specs.ValueLabels.{AreAllValuesLabelled}
use Rattle.jif_tree.specs.WrittenLabels.{label_of_variable, written_in, written_in_block}
use Rattle.jif_grammar.specs.DraftShapes.{DraftShape, ExprShape, number_shape, variable_shape}
use Rattle.jif_grammar.specs.DraftShapes.{element_shape, complement_shape, negation_shape, binary_shape}
use Rattle.jif_grammar.specs.DraftShapes.{release_shape, endorsement_shape, BlockShape, end_shape}
use Rattle.jif_grammar.specs.DraftShapes.{declaration_shape, assignment_shape, element_assignment_shape}
use Rattle.jif_grammar.specs.DraftShapes.{branch_shape, loop_shape, call_shape, return_shape, FieldShape}
use Rattle.jif_grammar.specs.DraftShapes.{LabelShape, MethodShape}
use Rattle.jif_resolve.specs.declared.meaning.Meaning.{Meaning}
use Rattle.jif_resolve.specs.declared.meaning.Meaning.TheVariants as sense
use Rattle.jif_resolve.specs.Faults.{setting_of}
use Rattle.jif_resolve.specs.Labels.{IsOptionalLabelFor}
use Rattle.jif_resolve.specs.Meanings.{Global}
use Rattle.jif_resolve.specs.Places.{Place, Setting, after_block, after_call, after_declaration, after_statement}
use Rattle.jif_resolve.specs.Places.{body_place, head_after, meaning_at}
use Rattle.jif_resolve.specs.Resolved.{AreMethodsFor, IsBlockFor, IsExprFor, IsFieldFor, IsMethodFor, IsVariableFor}
use Rattle.jif_resolve.specs.Resolved.{assignment_tree, heading_of, variable_tree}
use Rattle.jif_resolve.specs.Variables.{VariableShape}
use Rattle.jif_resolve.specs.Verdicts.{IsProgramOf}
use Rattle.label_reasons.specs.Programs.{IsMethodOver, IsProgramOver}

-- ---- expressions

-- a variable or a field has no label in the text
plain_over : (principals : Declared) (meaning : Option Meaning) (tree : ExprTree) →
    variable_tree meaning ≡ Some tree → All (IsLabelOver principals) (written_in tree)
plain_over principals None tree is = absurd cc
plain_over principals (Some (sense.Variable variable)) tree is =
    let same : tree ≡ local variable = cc in
    subst (λ (t : ExprTree). All (IsLabelOver principals) (written_in t)) (sym same) (All-nil (IsLabelOver principals))
plain_over principals (Some (sense.Plain field)) tree is =
    let same : tree ≡ scalar field = cc in
    subst (λ (t : ExprTree). All (IsLabelOver principals) (written_in t)) (sym same) (All-nil (IsLabelOver principals))
plain_over principals (Some (sense.Array field)) tree is = absurd cc
plain_over principals (Some (sense.Method method params gives)) tree is = absurd cc

with_label : (principals : Declared) (labels : List Label) (label : Label) → All (IsLabelOver principals) labels →
    IsLabelOver principals label → All (IsLabelOver principals) (labels ++ label ∷ [])
with_label principals labels label over is =
    All-append (IsLabelOver principals) labels (label ∷ []) over
    (All-cons (IsLabelOver principals) label [] is (All-nil (IsLabelOver principals)))

expr_over : (setting : Setting) (place : Place) (shape : ExprShape) (tree : ExprTree) →
    IsExprFor setting place shape tree → All (IsLabelOver setting.principals) (written_in tree)
expr_over setting place (number_shape value) tree is =
    subst (λ (t : ExprTree). All (IsLabelOver setting.principals) (written_in t)) (sym is)
    (All-nil (IsLabelOver setting.principals))
expr_over setting place (variable_shape name) tree is =
    plain_over setting.principals (meaning_at setting place name.text) tree is
expr_over setting place (element_shape name index) tree is =
    subst (λ (t : ExprTree). All (IsLabelOver setting.principals) (written_in t)) (sym is.2)
    (expr_over setting place index is.1 is.4)
expr_over setting place (complement_shape operand) tree is =
    subst (λ (t : ExprTree). All (IsLabelOver setting.principals) (written_in t)) (sym is.1)
    (expr_over setting place operand is.0 is.2)
expr_over setting place (negation_shape operand) tree is =
    subst (λ (t : ExprTree). All (IsLabelOver setting.principals) (written_in t)) (sym is.1)
    (expr_over setting place operand is.0 is.2)
expr_over setting place (binary_shape operator left right) tree is =
    subst (λ (t : ExprTree). All (IsLabelOver setting.principals) (written_in t)) (sym is.2)
    (All-append (IsLabelOver setting.principals) (written_in is.0) (written_in is.1)
    (expr_over setting place left is.0 is.3) (expr_over setting place right is.1 is.4))
expr_over setting place (release_shape operand written) tree is =
    subst (λ (t : ExprTree). All (IsLabelOver setting.principals) (written_in t)) (sym is.2)
    (with_label setting.principals (written_in is.0) is.1 (expr_over setting place operand is.0 is.3) is.4.over)
expr_over setting place (endorsement_shape operand written) tree is =
    subst (λ (t : ExprTree). All (IsLabelOver setting.principals) (written_in t)) (sym is.2)
    (with_label setting.principals (written_in is.0) is.1 (expr_over setting place operand is.0 is.3) is.4.over)

args_over : (setting : Setting) (place : Place) (args : List ExprShape) (trees : List ExprTree) →
    AllZip (IsExprFor setting place) args trees → All (IsLabelOver setting.principals) (flat_map written_in trees)
args_over setting place [] [] are = All-nil (IsLabelOver setting.principals)
args_over setting place [] (tree ∷ trees) are = absurd are
args_over setting place (arg ∷ args) [] are = absurd are
args_over setting place (arg ∷ args) (tree ∷ trees) are =
    All-append (IsLabelOver setting.principals) (written_in tree) (flat_map written_in trees)
    (expr_over setting place arg tree are.0) (args_over setting place args trees are.1)

-- ---- statements

-- these labels, and then those of what follows
abbrev IsBlockOver : Setting → BlockTree → Type 0
IsBlockOver setting tree = All (IsLabelOver setting.principals) (written_in_block tree)

both_over : (setting : Setting) (first second : List Label) → All (IsLabelOver setting.principals) first →
    All (IsLabelOver setting.principals) second → All (IsLabelOver setting.principals) (first ++ second)
both_over setting first second one two = All-append (IsLabelOver setting.principals) first second one two

assigned_over : (setting : Setting) (heading : Heading) (meaning : Option Meaning) (value : ExprTree)
    (behind tree : BlockTree) → assignment_tree heading meaning value behind ≡ Some tree →
    All (IsLabelOver setting.principals) (written_in value) → IsBlockOver setting behind → IsBlockOver setting tree
assigned_over setting heading None value behind tree is one two = absurd cc
assigned_over setting heading (Some (sense.Variable variable)) value behind tree is one two =
    let same : tree ≡ set_local heading variable value behind = cc in
    subst (IsBlockOver setting) (sym same) (both_over setting (written_in value) (written_in_block behind) one two)
assigned_over setting heading (Some (sense.Plain field)) value behind tree is one two =
    let same : tree ≡ set_field heading field value behind = cc in
    subst (IsBlockOver setting) (sym same) (both_over setting (written_in value) (written_in_block behind) one two)
assigned_over setting heading (Some (sense.Array field)) value behind tree is one two = absurd cc
assigned_over setting heading (Some (sense.Method method params gives)) value behind tree is one two = absurd cc

block_over : (setting : Setting) (place : Place) (shape : BlockShape) (tree : BlockTree) →
    IsBlockFor setting place shape tree → IsBlockOver setting tree
block_over setting place end_shape tree is =
    subst (IsBlockOver setting) (sym is) (All-nil (IsLabelOver setting.principals))
block_over setting place (declaration_shape start written name value rest) tree is =
    subst (IsBlockOver setting) (sym is.2)
    (both_over setting (written_in is.0) (written_in_block is.1) (expr_over setting place value is.0 is.3)
    (block_over setting (after_declaration place name) rest is.1 is.4))
block_over setting place (assignment_shape start name value rest) tree is =
    assigned_over setting (heading_of place start) (meaning_at setting place name.text) is.0 is.1 tree is.2
    (expr_over setting place value is.0 is.3) (block_over setting (after_statement place) rest is.1 is.4)
block_over setting place (element_assignment_shape start name index value rest) tree is =
    subst (IsBlockOver setting) (sym is.4)
    (both_over setting (written_in is.1 ++ written_in is.2) (written_in_block is.3)
    (both_over setting (written_in is.1) (written_in is.2) (expr_over setting place index is.1 is.6)
    (expr_over setting place value is.2 is.7))
    (block_over setting (after_statement place) rest is.3 is.8))
block_over setting place (branch_shape start guard first second rest) tree is =
    let inside = after_statement place in
    let between = after_block inside first in
    subst (IsBlockOver setting) (sym is.4)
    (both_over setting (written_in is.0 ++ written_in_block is.1 ++ written_in_block is.2) (written_in_block is.3)
    (both_over setting (written_in is.0 ++ written_in_block is.1) (written_in_block is.2)
    (both_over setting (written_in is.0) (written_in_block is.1) (expr_over setting place guard is.0 is.5)
    (block_over setting inside first is.1 is.6))
    (block_over setting between second is.2 is.7))
    (block_over setting (after_block between second) rest is.3 is.8))
block_over setting place (loop_shape start guard body rest) tree is =
    let inside = after_statement place in
    subst (IsBlockOver setting) (sym is.3)
    (both_over setting (written_in is.0 ++ written_in_block is.1) (written_in_block is.2)
    (both_over setting (written_in is.0) (written_in_block is.1) (expr_over setting place guard is.0 is.4)
    (block_over setting inside body is.1 is.5))
    (block_over setting (after_block inside body) rest is.2 is.6))
block_over setting place (call_shape start name args into rest) tree is =
    subst (IsBlockOver setting) (sym is.4)
    (both_over setting (flat_map written_in is.1) (written_in_block is.3) (args_over setting place args is.1 is.7)
    (block_over setting (after_call place) rest is.3 is.8))
block_over setting place (return_shape start value rest) tree is =
    subst (IsBlockOver setting) (sym is.2)
    (both_over setting (written_in is.0) (written_in_block is.1) (expr_over setting place value is.0 is.3)
    (block_over setting (after_statement place) rest is.1 is.4))

-- ---- fields, variables and methods

fields_over : (principals : Declared) (fields : List FieldShape) (trees : List FieldTree) →
    AllZip (IsFieldFor principals) fields trees → All (λ field. IsLabelOver principals field.label) trees
fields_over principals [] [] are = All-nil (λ (field : FieldTree). IsLabelOver principals field.label)
fields_over principals [] (tree ∷ trees) are = absurd are
fields_over principals (field ∷ fields) [] are = absurd are
fields_over principals (field ∷ fields) (tree ∷ trees) are =
    All-cons (λ (one : FieldTree). IsLabelOver principals one.label) tree trees are.0.label.over
    (fields_over principals fields trees are.1)

abbrev IsVariableOver : Declared → VarTree → Type 0
IsVariableOver principals variable = All (IsLabelOver principals) (label_of_variable variable.label)

optional_over : (principals : Declared) (written : Option LabelShape) (label : Option Label) →
    IsOptionalLabelFor principals written label → All (IsLabelOver principals) (label_of_variable label)
optional_over principals None label is =
    subst (λ (l : Option Label). All (IsLabelOver principals) (label_of_variable l)) (sym is)
    (All-nil (IsLabelOver principals))
optional_over principals (Some written) label is =
    subst (λ (l : Option Label). All (IsLabelOver principals) (label_of_variable l)) (sym is.1)
    (All-cons (IsLabelOver principals) is.0 [] is.2.over (All-nil (IsLabelOver principals)))

variables_over : (principals : Declared) (variables : List VariableShape) (trees : List VarTree) →
    AllZip (IsVariableFor principals) variables trees → All (IsVariableOver principals) trees
variables_over principals [] [] are = All-nil (IsVariableOver principals)
variables_over principals [] (tree ∷ trees) are = absurd are
variables_over principals (variable ∷ variables) [] are = absurd are
variables_over principals (variable ∷ variables) (tree ∷ trees) are =
    All-cons (IsVariableOver principals) tree trees (optional_over principals variable.label tree.label are.0.label)
    (variables_over principals variables trees are.1)

abbrev HasAuthority : Declared → MethodTree → Type 0
HasAuthority principals method = AreDeclared principals method.authority

method_over : (principals : Declared) (globals : List Global) (head : Place) (method : MethodShape)
    (tree : MethodTree) → IsMethodFor (setting_of principals globals method) head method tree →
    HasAuthority principals tree → IsMethodOver principals tree
method_over principals globals head method tree is authority = record {
  begin = is.begin.over;
  body = block_over (setting_of principals globals method) (body_place head method) method.body tree.body is.body;
  authority = authority;
}

methods_over : (principals : Declared) (globals : List Global) (before methods : List MethodShape)
    (trees : List MethodTree) → AreMethodsFor principals globals before methods trees →
    All (HasAuthority principals) trees → All (IsMethodOver principals) trees
methods_over principals globals before [] trees are authority =
    subst (All (IsMethodOver principals)) (sym are) (All-nil (IsMethodOver principals))
methods_over principals globals before (method ∷ methods) trees are authority =
    let all = subst (All (HasAuthority principals)) are.2 authority in
    subst (All (IsMethodOver principals)) (sym are.2)
    (All-cons (IsMethodOver principals) are.0 are.1
    (method_over principals globals (head_after before) method are.0 are.3 (All-head (HasAuthority principals) are.0 are.1 all))
    (methods_over principals globals (before ++ method ∷ []) methods are.1 are.4 (All-tail (HasAuthority principals) are.0 are.1 all)))

-- ---- programs

pub program_over : (principals : Declared) (draft : DraftShape) (tree : ProgramTree) → IsDeclared principals →
    IsProgramOf principals draft tree → All (HasAuthority principals) tree.methods →
    AreAllValuesLabelled principals tree (declared_labels tree) tree.methods → IsProgramOver principals tree
program_over principals draft tree declared is authority values = record {
  declared = declared;
  fields = fields_over principals draft.fields tree.fields is.is_tree.fields;
  variables = variables_over principals _ tree.vars is.is_tree.vars;
  methods = methods_over principals _ [] draft.methods tree.methods is.is_tree.methods authority;
  values = values;
}
