-- Each label that is written in a resolved program is that of a label of its draft, so it is a label.
use Rattle.std.proofs.Common.{◌≡◌, ℕ, zero, suc, All, List, [], ◌∷◌, ◌++◌, map, Option, Some, None, sym, subst}
use Rattle.std.specs.Prelude.{⊤, slice_get, unwrap_or}
use Rattle.std.specs.List.{AllZip, flat_map}
use Rattle.std.proofs.lemmas.List.Elements.{All-nil, All-cons, All-append, All-push}
use Rattle.principals.specs.ActsFor.{Declared}
use Rattle.label_lattice.specs.declared.label.Label.{Label}
use Rattle.label_lattice.specs.Label.{IsLabel}
use Rattle.label_lattice.specs.Lattice.{empty_label}
use Rattle.label_lattice.proofs.Values.{empty_is_label}
use Rattle.jif_tree.specs.Trees.{ExprTree, local, scalar, Heading, BlockTree, set_local, set_field, FieldTree}
use Rattle.jif_tree.specs.Trees.{VarTree, MethodTree, ProgramTree}
use Rattle.jif_tree.specs.WrittenLabels.{written_in, written_in_block}
use Rattle.jif_grammar.specs.DraftShapes.{ExprShape, number_shape, variable_shape, LabelShape}
use Rattle.jif_grammar.specs.DraftShapes.{element_shape, complement_shape, negation_shape, binary_shape}
use Rattle.jif_grammar.specs.DraftShapes.{release_shape, endorsement_shape, BlockShape, end_shape}
use Rattle.jif_grammar.specs.DraftShapes.{declaration_shape, assignment_shape, element_assignment_shape}
use Rattle.jif_grammar.specs.DraftShapes.{branch_shape, loop_shape, call_shape, return_shape, FieldShape}
use Rattle.jif_grammar.specs.DraftShapes.{MethodShape, DraftShape}
use Rattle.jif_resolve.specs.declared.meaning.Meaning.{Meaning}
use Rattle.jif_resolve.specs.declared.meaning.Meaning.TheVariants as sense
use Rattle.jif_resolve.specs.Faults.{setting_of}
use Rattle.jif_resolve.specs.Labels.{IsOptionalLabelFor}
use Rattle.jif_resolve.specs.Meanings.{globals_of}
use Rattle.jif_resolve.specs.Places.{Setting, Place, after_statement, after_block, after_call, after_declaration}
use Rattle.jif_resolve.specs.Places.{meaning_at, body_place}
use Rattle.jif_resolve.specs.Resolved.{variable_tree, assignment_tree, heading_of, IsExprFor, IsBlockFor}
use Rattle.jif_resolve.specs.Resolved.{IsFieldFor, IsVariableFor, IsTreeOf}
use Rattle.jif_resolve.specs.Variables.{VariableShape, variables_from}
use Rattle.jif_resolve.proofs.EachMethod.{each_method}

-- ---- expressions

abbrev HasReal : ExprTree → Type 0
HasReal tree = All IsLabel (written_in tree)

name_writes_none : (means : Option Meaning) (tree : ExprTree) → variable_tree means ≡ Some tree → HasReal tree
name_writes_none None tree is = absurd cc
name_writes_none (Some (sense.Variable x)) tree is =
    let same : local x ≡ tree = cc in subst HasReal same (All-nil IsLabel)
name_writes_none (Some (sense.Plain field)) tree is =
    let same : scalar field ≡ tree = cc in subst HasReal same (All-nil IsLabel)
name_writes_none (Some (sense.Array field)) tree is = absurd cc
name_writes_none (Some (sense.Method method params gives)) tree is = absurd cc

expr_writes : (s : Setting) (p : Place) (e : ExprShape) (tree : ExprTree) → IsExprFor s p e tree → HasReal tree
expr_writes s p (number_shape value) tree is = subst HasReal (sym is) (All-nil IsLabel)
expr_writes s p (variable_shape name) tree is = name_writes_none (meaning_at s p name.text) tree is
expr_writes s p (element_shape name index) tree (field, inner, same, array, is) =
    subst HasReal (sym same) (expr_writes s p index inner is)
expr_writes s p (complement_shape operand) tree (inner, same, is) =
    subst HasReal (sym same) (expr_writes s p operand inner is)
expr_writes s p (negation_shape operand) tree (inner, same, is) =
    subst HasReal (sym same) (expr_writes s p operand inner is)
expr_writes s p (binary_shape operator left right) tree (first, second, same, one, other) =
    subst HasReal (sym same)
    (All-append IsLabel (written_in first) (written_in second) (expr_writes s p left first one)
    (expr_writes s p right second other))
expr_writes s p (release_shape operand written) tree (inner, label, same, is, labelled) =
    subst HasReal (sym same)
    (All-push IsLabel (written_in inner) label (expr_writes s p operand inner is) labelled.over.is_label)
expr_writes s p (endorsement_shape operand written) tree (inner, label, same, is, labelled) =
    subst HasReal (sym same)
    (All-push IsLabel (written_in inner) label (expr_writes s p operand inner is) labelled.over.is_label)

all_write : (s : Setting) (p : Place) (shapes : List ExprShape) (trees : List ExprTree) →
    AllZip (IsExprFor s p) shapes trees → All IsLabel (flat_map written_in trees)
all_write s p [] [] are = All-nil IsLabel
all_write s p [] (tree ∷ trees) are = absurd are
all_write s p (e ∷ shapes) [] are = absurd are
all_write s p (e ∷ shapes) (tree ∷ trees) are =
    All-append IsLabel (written_in tree) (flat_map written_in trees) (expr_writes s p e tree are.0)
    (all_write s p shapes trees are.1)

-- ---- statements

abbrev BlockHasReal : BlockTree → Type 0
BlockHasReal tree = All IsLabel (written_in_block tree)

-- a part and what is behind it
then_real : (one behind : List Label) → All IsLabel one → All IsLabel behind → All IsLabel (one ++ behind)
then_real one behind first second = All-append IsLabel one behind first second

assigned_writes : (heading : Heading) (means : Option Meaning) (value : ExprTree) (rest tree : BlockTree) →
    assignment_tree heading means value rest ≡ Some tree → HasReal value → BlockHasReal rest → BlockHasReal tree
assigned_writes heading None value rest tree made one behind = absurd cc
assigned_writes heading (Some (sense.Variable x)) value rest tree made one behind =
    let same : set_local heading x value rest ≡ tree = cc in
    subst BlockHasReal same (then_real (written_in value) (written_in_block rest) one behind)
assigned_writes heading (Some (sense.Plain field)) value rest tree made one behind =
    let same : set_field heading field value rest ≡ tree = cc in
    subst BlockHasReal same (then_real (written_in value) (written_in_block rest) one behind)
assigned_writes heading (Some (sense.Array field)) value rest tree made one behind = absurd cc
assigned_writes heading (Some (sense.Method method params gives)) value rest tree made one behind = absurd cc

block_writes : (s : Setting) (p : Place) (b : BlockShape) (tree : BlockTree) → IsBlockFor s p b tree →
    BlockHasReal tree
block_writes s p end_shape tree is = subst BlockHasReal (sym is) (All-nil IsLabel)
block_writes s p (declaration_shape start written name value rest) tree (x, r, same, one, behind) =
    subst BlockHasReal (sym same)
    (then_real (written_in x) (written_in_block r) (expr_writes s p value x one)
    (block_writes s (after_declaration p name) rest r behind))
block_writes s p (assignment_shape start name value rest) tree (x, r, same, one, behind) =
    assigned_writes (heading_of p start) (meaning_at s p name.text) x r tree same (expr_writes s p value x one)
    (block_writes s (after_statement p) rest r behind)
block_writes s p (element_assignment_shape start name index value rest) tree
    (f, i, x, r, same, array, at, one, behind) =
    subst BlockHasReal (sym same)
    (then_real (written_in i ++ written_in x) (written_in_block r)
    (then_real (written_in i) (written_in x) (expr_writes s p index i at) (expr_writes s p value x one))
    (block_writes s (after_statement p) rest r behind))
block_writes s p (branch_shape start guard first second rest) tree (x, t, u, r, same, one, front, middle, behind) =
    let inside = after_statement p in
    let between = after_block inside first in
    let firsts = written_in x ++ written_in_block t in
    subst BlockHasReal (sym same)
    (then_real (firsts ++ written_in_block u) (written_in_block r)
    (then_real firsts (written_in_block u)
    (then_real (written_in x) (written_in_block t) (expr_writes s p guard x one) (block_writes s inside first t front))
    (block_writes s between second u middle)) (block_writes s (after_block between second) rest r behind))
block_writes s p (loop_shape start guard body rest) tree (x, t, r, same, one, front, behind) =
    let inside = after_statement p in
    subst BlockHasReal (sym same)
    (then_real (written_in x ++ written_in_block t) (written_in_block r)
    (then_real (written_in x) (written_in_block t) (expr_writes s p guard x one) (block_writes s inside body t front))
    (block_writes s (after_block inside body) rest r behind))
block_writes s p (call_shape start name args into rest) tree (f, xs, k, r, same, called, kept, all, behind) =
    subst BlockHasReal (sym same)
    (then_real (flat_map written_in xs) (written_in_block r) (all_write s p args xs all)
    (block_writes s (after_call p) rest r behind))
block_writes s p (return_shape start value rest) tree (x, r, same, one, behind) =
    subst BlockHasReal (sym same)
    (then_real (written_in x) (written_in_block r) (expr_writes s p value x one)
    (block_writes s (after_statement p) rest r behind))

-- ---- fields and variables

abbrev IsRealField : FieldTree → Type 0
IsRealField field = IsLabel field.label

fields_labelled : (principals : Declared) (fields : List FieldShape) (trees : List FieldTree) →
    AllZip (IsFieldFor principals) fields trees → All IsRealField trees
fields_labelled principals [] [] are = All-nil IsRealField
fields_labelled principals [] (tree ∷ trees) are = absurd are
fields_labelled principals (field ∷ fields) [] are = absurd are
fields_labelled principals (field ∷ fields) (tree ∷ trees) are =
    All-cons IsRealField tree trees are.0.label.over.is_label (fields_labelled principals fields trees are.1)

-- a variable that is declared without a label has the empty one
declared_label : (principals : Declared) (written : Option LabelShape) (label : Option Label) →
    IsOptionalLabelFor principals written label → IsLabel (unwrap_or label empty_label)
declared_label principals None label is =
    subst (λ (own : Option Label). IsLabel (unwrap_or own empty_label)) (sym is) empty_is_label
declared_label principals (Some written) label (own, same, is) =
    subst (λ (one : Option Label). IsLabel (unwrap_or one empty_label)) (sym same) is.over.is_label

variables_labelled : (principals : Declared) (variables : List VariableShape) (trees : List VarTree) →
    AllZip (IsVariableFor principals) variables trees → (place : ℕ) →
    IsLabel (unwrap_or (unwrap_or (slice_get (map (λ variable. variable.label) trees) place) None) empty_label)
variables_labelled principals [] [] are place = empty_is_label
variables_labelled principals [] (tree ∷ trees) are place = absurd are
variables_labelled principals (variable ∷ variables) [] are place = absurd are
variables_labelled principals (variable ∷ variables) (tree ∷ trees) are zero =
    declared_label principals variable.label tree.label are.0.label
variables_labelled principals (variable ∷ variables) (tree ∷ trees) are (suc place) =
    variables_labelled principals variables trees are.1 place

-- ---- programs

abbrev pub IsRealMethod : MethodTree → Type 0
IsRealMethod method = IsLabel method.begin × All IsLabel (written_in_block method.body)

abbrev AnyMethod : MethodShape → Type 0
AnyMethod method = ⊤

any_methods : (methods : List MethodShape) → All AnyMethod methods
any_methods [] = All-nil AnyMethod
any_methods (method ∷ methods) = All-cons AnyMethod method methods tt (any_methods methods)

-- the labels of a program before it is checked
pub record AreRead (tree : ProgramTree) : Type 0 where
  pub fields : All (λ field. IsLabel field.label) tree.fields
  pub variables : (place : ℕ) →
      IsLabel (unwrap_or (unwrap_or (slice_get (map (λ variable. variable.label) tree.vars) place) None) empty_label)
  pub methods : All IsRealMethod tree.methods

pub labels_read : (principals : Declared) (draft : DraftShape) (tree : ProgramTree) → IsTreeOf principals draft tree →
    AreRead tree
labels_read principals draft tree is =
    let globals = globals_of draft in
    record {
      fields = fields_labelled principals draft.fields tree.fields is.fields;
      variables = variables_labelled principals (variables_from 0 draft.methods) tree.vars is.vars;
      methods = each_method AnyMethod IsRealMethod principals globals
          (λ head method one made any. (
            made.begin.over.is_label,
            block_writes (setting_of principals globals method) (body_place head method) method.body one.body made.body,
          ))
          [] draft.methods tree.methods is.methods (any_methods draft.methods);
    }
