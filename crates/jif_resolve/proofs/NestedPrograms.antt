-- No more constructs are open at a place of a resolved program than in its draft.
use Rattle.std.proofs.Common.{◌≡◌, ℕ, ◌+◌, List, [], ◌∷◌, Option, Some, None, sym, subst}
use Rattle.std.specs.List.{AllZip, AllByRecursion}
use Rattle.jif_tree.specs.Sizes.{IsExprNested, IsBlockNested}
use Rattle.jif_tree.specs.Trees.{ExprTree, local, scalar, Heading, BlockTree, set_local, set_field}
use Rattle.jif_grammar.specs.DraftShapes.{ExprShape, number_shape, variable_shape}
use Rattle.jif_grammar.specs.DraftShapes.{element_shape, complement_shape, negation_shape, binary_shape}
use Rattle.jif_grammar.specs.DraftShapes.{release_shape, endorsement_shape, BlockShape, end_shape}
use Rattle.jif_grammar.specs.DraftShapes.{declaration_shape, assignment_shape, element_assignment_shape}
use Rattle.jif_grammar.specs.DraftShapes.{branch_shape, loop_shape, call_shape, return_shape}
use Rattle.jif_resolve.specs.declared.meaning.Meaning.{Meaning}
use Rattle.jif_resolve.specs.declared.meaning.Meaning.TheVariants as sense
use Rattle.jif_resolve.specs.Places.{Setting, Place, after_statement, after_block, after_call, after_declaration}
use Rattle.jif_resolve.specs.Places.{meaning_at}
use Rattle.jif_resolve.specs.Resolved.{variable_tree, assignment_tree, heading_of, IsExprFor, IsBlockFor}
use Rattle.jif_resolve.specs.Sizes as drafts

-- ---- expressions

name_opens_none : (around : ℕ) (means : Option Meaning) (tree : ExprTree) → variable_tree means ≡ Some tree →
    IsExprNested around tree
name_opens_none around None tree is = absurd cc
name_opens_none around (Some (sense.Variable x)) tree is =
    let same : local x ≡ tree = cc in subst (IsExprNested around) same tt
name_opens_none around (Some (sense.Plain field)) tree is =
    let same : scalar field ≡ tree = cc in subst (IsExprNested around) same tt
name_opens_none around (Some (sense.Array field)) tree is = absurd cc
name_opens_none around (Some (sense.Method method params gives)) tree is = absurd cc

expr_nested : (s : Setting) (p : Place) (around : ℕ) (e : ExprShape) (tree : ExprTree) → IsExprFor s p e tree →
    drafts.IsExprNested around e → IsExprNested around tree
expr_nested s p around (number_shape value) tree is nested = subst (IsExprNested around) (sym is) tt
expr_nested s p around (variable_shape name) tree is nested =
    name_opens_none around (meaning_at s p name.text) tree is
expr_nested s p around (element_shape name index) tree (field, inner, same, array, is) nested =
    subst (IsExprNested around) (sym same) (nested.0, expr_nested s p (around + 1) index inner is nested.1)
expr_nested s p around (complement_shape operand) tree (inner, same, is) nested =
    subst (IsExprNested around) (sym same) (nested.0, expr_nested s p (around + 1) operand inner is nested.1)
expr_nested s p around (negation_shape operand) tree (inner, same, is) nested =
    subst (IsExprNested around) (sym same) (nested.0, expr_nested s p (around + 1) operand inner is nested.1)
expr_nested s p around (binary_shape operator left right) tree (first, second, same, one, other) nested =
    subst (IsExprNested around) (sym same)
    (expr_nested s p around left first one nested.0, expr_nested s p around right second other nested.1)
expr_nested s p around (release_shape operand written) tree (inner, label, same, is, labelled) nested =
    subst (IsExprNested around) (sym same) (nested.0, expr_nested s p (around + 1) operand inner is nested.1)
expr_nested s p around (endorsement_shape operand written) tree (inner, label, same, is, labelled) nested =
    subst (IsExprNested around) (sym same) (nested.0, expr_nested s p (around + 1) operand inner is nested.1)

all_nested : (s : Setting) (p : Place) (around : ℕ) (shapes : List ExprShape) (trees : List ExprTree) →
    AllZip (IsExprFor s p) shapes trees → AllByRecursion (drafts.IsExprNested around) shapes →
    AllByRecursion (IsExprNested around) trees
all_nested s p around [] [] are nested = tt
all_nested s p around [] (tree ∷ trees) are nested = absurd are
all_nested s p around (e ∷ shapes) [] are nested = absurd are
all_nested s p around (e ∷ shapes) (tree ∷ trees) are nested =
    (expr_nested s p around e tree are.0 nested.0, all_nested s p around shapes trees are.1 nested.1)

-- ---- statements

assigned_nested : (around : ℕ) (heading : Heading) (means : Option Meaning) (value : ExprTree) (rest tree : BlockTree) →
    assignment_tree heading means value rest ≡ Some tree → IsExprNested around value → IsBlockNested around rest →
    IsBlockNested around tree
assigned_nested around heading None value rest tree made one behind = absurd cc
assigned_nested around heading (Some (sense.Variable x)) value rest tree made one behind =
    let same : set_local heading x value rest ≡ tree = cc in subst (IsBlockNested around) same (one, behind)
assigned_nested around heading (Some (sense.Plain field)) value rest tree made one behind =
    let same : set_field heading field value rest ≡ tree = cc in subst (IsBlockNested around) same (one, behind)
assigned_nested around heading (Some (sense.Array field)) value rest tree made one behind = absurd cc
assigned_nested around heading (Some (sense.Method method params gives)) value rest tree made one behind = absurd cc

pub block_nested : (s : Setting) (p : Place) (around : ℕ) (b : BlockShape) (tree : BlockTree) → IsBlockFor s p b tree →
    drafts.IsBlockNested around b → IsBlockNested around tree
block_nested s p around end_shape tree is nested = subst (IsBlockNested around) (sym is) tt
block_nested s p around (declaration_shape start written name value rest) tree (x, r, same, one, behind) nested =
    subst (IsBlockNested around) (sym same) (
      expr_nested s p around value x one nested.0,
      block_nested s (after_declaration p name) around rest r behind nested.1,
    )
block_nested s p around (assignment_shape start name value rest) tree (x, r, same, one, behind) nested =
    assigned_nested around (heading_of p start) (meaning_at s p name.text) x r tree same
    (expr_nested s p around value x one nested.0)
    (block_nested s (after_statement p) around rest r behind nested.1)
block_nested s p around (element_assignment_shape start name index value rest) tree
    (f, i, x, r, same, array, at, one, behind) nested =
    subst (IsBlockNested around) (sym same) (
      expr_nested s p around index i at nested.0,
      expr_nested s p around value x one nested.1,
      block_nested s (after_statement p) around rest r behind nested.2,
    )
block_nested s p around (branch_shape start guard first second rest) tree
    (x, t, u, r, same, one, front, middle, behind) nested =
    let inside = after_statement p in
    let between = after_block inside first in
    subst (IsBlockNested around) (sym same) (
      expr_nested s p around guard x one nested.0,
      nested.1,
      block_nested s inside (around + 1) first t front nested.2,
      block_nested s between (around + 1) second u middle nested.3,
      block_nested s (after_block between second) around rest r behind nested.4,
    )
block_nested s p around (loop_shape start guard body rest) tree (x, t, r, same, one, front, behind) nested =
    let inside = after_statement p in
    subst (IsBlockNested around) (sym same) (
      expr_nested s p around guard x one nested.0,
      nested.1,
      block_nested s inside (around + 1) body t front nested.2,
      block_nested s (after_block inside body) around rest r behind nested.3,
    )
block_nested s p around (call_shape start name args into rest) tree (f, xs, k, r, same, called, kept, all, behind)
    nested =
    subst (IsBlockNested around) (sym same)
    (all_nested s p around args xs all nested.0, block_nested s (after_call p) around rest r behind nested.1)
block_nested s p around (return_shape start value rest) tree (x, r, same, one, behind) nested =
    subst (IsBlockNested around) (sym same)
    (expr_nested s p around value x one nested.0, block_nested s (after_statement p) around rest r behind nested.1)
