-- The numbers of a program that was read and resolved are those of its tokens, so they have 64 bits.
use Rattle.std.proofs.Common.{◌≡◌, ℕ, ℤ, pos, negsuc, suc, ◌^◌, ◌<◌, All, List, [], ◌∷◌, Option, Some, None, sym}
use Rattle.std.proofs.Common.{subst, arith}
use Rattle.std.specs.List.{AllZip, AllByRecursion}
use Rattle.std.proofs.lemmas.Int.{ints}
use Rattle.std.proofs.lemmas.List.Elements.{All-nil, All-cons, All-from_recursion}
use Rattle.principals.specs.ActsFor.{Declared}
use Rattle.jif_lex.specs.declared.token.Token.{Token}
use Rattle.jif_lex.specs.TokenLists.{AreTokens}
use Rattle.jif_tree.specs.Numbers.{IsNumber, ExprHasNumbers, BlockHasNumbers, HasNumbers}
use Rattle.jif_tree.specs.Trees.{ExprTree, local, scalar, Heading, BlockTree, set_local, set_field, FieldTree}
use Rattle.jif_tree.specs.Trees.{ProgramTree}
use Rattle.jif_grammar.specs.DraftShapes.{ExprShape, number_shape, variable_shape}
use Rattle.jif_grammar.specs.DraftShapes.{element_shape, complement_shape, negation_shape, binary_shape}
use Rattle.jif_grammar.specs.DraftShapes.{release_shape, endorsement_shape, BlockShape, end_shape}
use Rattle.jif_grammar.specs.DraftShapes.{declaration_shape, assignment_shape, element_assignment_shape}
use Rattle.jif_grammar.specs.DraftShapes.{branch_shape, loop_shape, call_shape, return_shape, FieldShape}
use Rattle.jif_grammar.specs.DraftShapes.{DraftShape}
use Rattle.jif_grammar.specs.Programs as grammar
use Rattle.jif_resolve.specs.declared.meaning.Meaning.{Meaning}
use Rattle.jif_resolve.specs.declared.meaning.Meaning.TheVariants as sense
use Rattle.jif_resolve.specs.Faults.{setting_of}
use Rattle.jif_resolve.specs.Meanings.{globals_of}
use Rattle.jif_resolve.specs.Places.{Setting, Place, after_statement, after_block, after_call, after_declaration}
use Rattle.jif_resolve.specs.Places.{meaning_at, body_place}
use Rattle.jif_resolve.specs.Resolved.{variable_tree, assignment_tree, heading_of, IsExprFor, IsBlockFor}
use Rattle.jif_resolve.specs.Resolved.{IsFieldFor}
use Rattle.jif_resolve.specs.Verdicts.{IsProgramOf}
use Rattle.jif_resolve.proofs.EachMethod.{each_method}
use Rattle.jif_parse.proofs.NamedPrograms.{draft_named}
use Rattle.jif_parse.proofs.PrintedAlike.{IsNamedBlockShape}
use Rattle.jif_parse.proofs.PrintedApart.{IsSmall}
use Rattle.jif_parse.proofs.PrintedBackExprs.{IsNamedShape}
use Rattle.jif_parse.proofs.PrintedBackMethods.{IsNamedMethod}
use Rattle.jif_parse.proofs.PrintedBackProgram.{IsSmallFirst}
use Rattle.jif_parse.proofs.PrintedNamesOf.{StartsSmall}

-- ---- numbers

small_number : (n : ℕ) → IsSmall n → n < 2 ^ 63
small_number n small = grind (arith, ints)

literal_number : (value : ℤ) → IsNamedShape (number_shape value) → IsNumber value
literal_number (pos n) small = record { sfits = small_number n small }
literal_number (negsuc n) small = absurd small

first_number : (value : ℤ) → IsSmallFirst value → IsNumber value
first_number (pos n) small = record { sfits = small_number n small }
first_number (negsuc n) small = let few = small_number (suc n) small in record { sfits = omega (arith, few) }

-- ---- expressions

name_has_none : (means : Option Meaning) (tree : ExprTree) → variable_tree means ≡ Some tree → ExprHasNumbers tree
name_has_none None tree is = absurd cc
name_has_none (Some (sense.Variable x)) tree is =
    let same : local x ≡ tree = cc in subst ExprHasNumbers same tt
name_has_none (Some (sense.Plain field)) tree is =
    let same : scalar field ≡ tree = cc in subst ExprHasNumbers same tt
name_has_none (Some (sense.Array field)) tree is = absurd cc
name_has_none (Some (sense.Method method params gives)) tree is = absurd cc

expr_numbers : (s : Setting) (p : Place) (e : ExprShape) (tree : ExprTree) → IsExprFor s p e tree → IsNamedShape e →
    ExprHasNumbers tree
expr_numbers s p (number_shape value) tree is small = subst ExprHasNumbers (sym is) (literal_number value small)
expr_numbers s p (variable_shape name) tree is small = name_has_none (meaning_at s p name.text) tree is
expr_numbers s p (element_shape name index) tree (field, inner, same, array, is) small =
    subst ExprHasNumbers (sym same) (expr_numbers s p index inner is small.1)
expr_numbers s p (complement_shape operand) tree (inner, same, is) small =
    subst ExprHasNumbers (sym same) (expr_numbers s p operand inner is small)
expr_numbers s p (negation_shape operand) tree (inner, same, is) small =
    subst ExprHasNumbers (sym same) (expr_numbers s p operand inner is small)
expr_numbers s p (binary_shape operator left right) tree (first, second, same, one, other) small =
    subst ExprHasNumbers (sym same)
    (expr_numbers s p left first one small.0, expr_numbers s p right second other small.1)
expr_numbers s p (release_shape operand written) tree (inner, label, same, is, labelled) small =
    subst ExprHasNumbers (sym same) (expr_numbers s p operand inner is small)
expr_numbers s p (endorsement_shape operand written) tree (inner, label, same, is, labelled) small =
    subst ExprHasNumbers (sym same) (expr_numbers s p operand inner is small)

all_numbers : (s : Setting) (p : Place) (shapes : List ExprShape) (trees : List ExprTree) →
    AllZip (IsExprFor s p) shapes trees → AllByRecursion IsNamedShape shapes → AllByRecursion ExprHasNumbers trees
all_numbers s p [] [] are small = tt
all_numbers s p [] (tree ∷ trees) are small = absurd are
all_numbers s p (e ∷ shapes) [] are small = absurd are
all_numbers s p (e ∷ shapes) (tree ∷ trees) are small =
    (expr_numbers s p e tree are.0 small.0, all_numbers s p shapes trees are.1 small.1)

-- ---- statements

assigned_numbers : (heading : Heading) (means : Option Meaning) (value : ExprTree) (rest tree : BlockTree) →
    assignment_tree heading means value rest ≡ Some tree → ExprHasNumbers value → BlockHasNumbers rest →
    BlockHasNumbers tree
assigned_numbers heading None value rest tree made one behind = absurd cc
assigned_numbers heading (Some (sense.Variable x)) value rest tree made one behind =
    let same : set_local heading x value rest ≡ tree = cc in subst BlockHasNumbers same (one, behind)
assigned_numbers heading (Some (sense.Plain field)) value rest tree made one behind =
    let same : set_field heading field value rest ≡ tree = cc in subst BlockHasNumbers same (one, behind)
assigned_numbers heading (Some (sense.Array field)) value rest tree made one behind = absurd cc
assigned_numbers heading (Some (sense.Method method params gives)) value rest tree made one behind = absurd cc

block_numbers : (s : Setting) (p : Place) (b : BlockShape) (tree : BlockTree) → IsBlockFor s p b tree →
    IsNamedBlockShape b → BlockHasNumbers tree
block_numbers s p end_shape tree is small = subst BlockHasNumbers (sym is) tt
block_numbers s p (declaration_shape start written name value rest) tree (x, r, same, one, behind) small =
    subst BlockHasNumbers (sym same) (
      expr_numbers s p value x one small.1,
      block_numbers s (after_declaration p name) rest r behind small.2,
    )
block_numbers s p (assignment_shape start name value rest) tree (x, r, same, one, behind) small =
    assigned_numbers (heading_of p start) (meaning_at s p name.text) x r tree same
    (expr_numbers s p value x one small.1) (block_numbers s (after_statement p) rest r behind small.2)
block_numbers s p (element_assignment_shape start name index value rest) tree
    (f, i, x, r, same, array, at, one, behind) small =
    subst BlockHasNumbers (sym same) (
      expr_numbers s p index i at small.1,
      expr_numbers s p value x one small.2,
      block_numbers s (after_statement p) rest r behind small.3,
    )
block_numbers s p (branch_shape start guard first second rest) tree
    (x, t, u, r, same, one, front, middle, behind) small =
    let inside = after_statement p in
    let between = after_block inside first in
    subst BlockHasNumbers (sym same) (
      expr_numbers s p guard x one small.0,
      block_numbers s inside first t front small.1,
      block_numbers s between second u middle small.2,
      block_numbers s (after_block between second) rest r behind small.3,
    )
block_numbers s p (loop_shape start guard body rest) tree (x, t, r, same, one, front, behind) small =
    let inside = after_statement p in
    subst BlockHasNumbers (sym same) (
      expr_numbers s p guard x one small.0,
      block_numbers s inside body t front small.1,
      block_numbers s (after_block inside body) rest r behind small.2,
    )
block_numbers s p (call_shape start name args into rest) tree (f, xs, k, r, same, called, kept, all, behind) small =
    subst BlockHasNumbers (sym same)
    (all_numbers s p args xs all small.1, block_numbers s (after_call p) rest r behind small.3)
block_numbers s p (return_shape start value rest) tree (x, r, same, one, behind) small =
    subst BlockHasNumbers (sym same)
    (expr_numbers s p value x one small.0, block_numbers s (after_statement p) rest r behind small.1)

-- ---- programs

abbrev FieldHasNumber : FieldTree → Type 0
FieldHasNumber field = IsNumber field.first

field_numbers : (principals : Declared) (fields : List FieldShape) (trees : List FieldTree) →
    AllZip (IsFieldFor principals) fields trees → AllByRecursion StartsSmall fields → All FieldHasNumber trees
field_numbers principals [] [] are small = All-nil FieldHasNumber
field_numbers principals [] (tree ∷ trees) are small = absurd are
field_numbers principals (field ∷ fields) [] are small = absurd are
field_numbers principals (field ∷ fields) (tree ∷ trees) are small =
    All-cons FieldHasNumber tree trees (subst IsNumber (sym are.0.first) (first_number field.first small.0.1))
    (field_numbers principals fields trees are.1 small.1)

pub program_numbers : (list : List Token) (principals : Declared) (draft : DraftShape) (tree : ProgramTree) →
    AreTokens list → grammar.IsProgramOf list draft → IsProgramOf principals draft tree → HasNumbers tree
program_numbers list principals draft tree fits is_program resolved =
    let small = draft_named list draft fits is_program in
    let is = resolved.is_tree in
    let globals = globals_of draft in
    record {
      fields = field_numbers principals draft.fields tree.fields is.fields small.0;
      methods = each_method IsNamedMethod _ principals globals
          (λ head method one made named. block_numbers (setting_of principals globals method) (body_place head method)
          method.body one.body made.body named.3)
          [] draft.methods tree.methods is.methods (All-from_recursion IsNamedMethod draft.methods small.1);
    }
