-- A `return` of a resolved program stands where one stands in its draft.
use Rattle.std.proofs.Common.{◌≡◌, Bool, true, false, [], All, Option, Some, None, refl, sym, subst}
use Rattle.principals.specs.ActsFor.{Declared}
use Rattle.jif_tree.specs.Returns.{ReturnsLast}
use Rattle.jif_tree.specs.Trees.{ExprTree, Heading, BlockTree, done, set_local, set_field, ProgramTree}
use Rattle.jif_grammar.specs.DraftShapes.{BlockShape, end_shape, declaration_shape, assignment_shape}
use Rattle.jif_grammar.specs.DraftShapes.{element_assignment_shape, branch_shape, loop_shape, call_shape, return_shape}
use Rattle.jif_grammar.specs.DraftShapes.{DraftShape}
use Rattle.jif_resolve.specs.Faults.{setting_of}
use Rattle.jif_resolve.specs.Meanings.{globals_of}
use Rattle.jif_resolve.specs.Places.{Setting, Place, after_statement, after_call, after_declaration, after_block}
use Rattle.jif_resolve.specs.Places.{meaning_at, body_place}
use Rattle.jif_resolve.specs.Resolved.{assignment_tree, heading_of, IsBlockFor}
use Rattle.jif_resolve.specs.Returns.{HasNoReturn, MethodReturnsLast, AreReturnedLast}
use Rattle.jif_resolve.specs.Returns as drafts
use Rattle.jif_resolve.specs.Verdicts.{IsProgramOf}
use Rattle.jif_resolve.proofs.EachMethod.{each_method}
use Rattle.jif_resolve.specs.declared.meaning.Meaning.{Meaning}
use Rattle.jif_resolve.specs.declared.meaning.Meaning.TheVariants as sense

assigned_returns : (may : Bool) (heading : Heading) (means : Option Meaning) (value : ExprTree)
    (rest tree : BlockTree) →
    assignment_tree heading means value rest ≡ Some tree → ReturnsLast may rest → ReturnsLast may tree
assigned_returns may heading None value rest tree made returns = absurd cc
assigned_returns may heading (Some (sense.Variable x)) value rest tree made returns =
    let same : set_local heading x value rest ≡ tree = cc in subst (ReturnsLast may) same returns
assigned_returns may heading (Some (sense.Plain field)) value rest tree made returns =
    let same : set_field heading field value rest ≡ tree = cc in subst (ReturnsLast may) same returns
assigned_returns may heading (Some (sense.Array field)) value rest tree made returns = absurd cc
assigned_returns may heading (Some (sense.Method method params gives)) value rest tree made returns = absurd cc

never_returns : (may : Bool) (s : Setting) (p : Place) (b : BlockShape) (tree : BlockTree) → IsBlockFor s p b tree →
    HasNoReturn b → ReturnsLast may tree
never_returns may s p end_shape tree is none = subst (ReturnsLast may) (sym is) tt
never_returns may s p (declaration_shape start written name value rest) tree (x, r, same, one, behind) none =
    subst (ReturnsLast may) (sym same) (never_returns may s (after_declaration p name) rest r behind none)
never_returns may s p (assignment_shape start name value rest) tree (x, r, same, one, behind) none =
    assigned_returns may (heading_of p start) (meaning_at s p name.text) x r tree same
    (never_returns may s (after_statement p) rest r behind none)
never_returns may s p (element_assignment_shape start name index value rest) tree
    (f, i, x, r, same, array, at, one, behind) none =
    subst (ReturnsLast may) (sym same) (never_returns may s (after_statement p) rest r behind none)
never_returns may s p (branch_shape start guard first second rest) tree
    (x, t, u, r, same, one, front, middle, behind) none =
    let inside = after_statement p in
    let between = after_block inside first in
    subst (ReturnsLast may) (sym same) (
      never_returns false s inside first t front none.0,
      never_returns false s between second u middle none.1,
      never_returns may s (after_block between second) rest r behind none.2,
    )
never_returns may s p (loop_shape start guard body rest) tree (x, t, r, same, one, front, behind) none =
    let inside = after_statement p in
    subst (ReturnsLast may) (sym same) (
      never_returns false s inside body t front none.0,
      never_returns may s (after_block inside body) rest r behind none.1,
    )
never_returns may s p (call_shape start name args into rest) tree (f, xs, k, r, same, called, kept, all, behind) none =
    subst (ReturnsLast may) (sym same) (never_returns may s (after_call p) rest r behind none)
never_returns may s p (return_shape start value rest) tree is none = absurd none

pub nothing_behind : (s : Setting) (p : Place) (b : BlockShape) (tree : BlockTree) → b ≡ end_shape →
    IsBlockFor s p b tree → tree ≡ done
nothing_behind s p b tree ends is = subst (λ shape. IsBlockFor s p shape tree) ends is

block_returns : (s : Setting) (p : Place) (b : BlockShape) (tree : BlockTree) → IsBlockFor s p b tree →
    drafts.ReturnsLast b → ReturnsLast true tree
block_returns s p end_shape tree is last = subst (ReturnsLast true) (sym is) tt
block_returns s p (declaration_shape start written name value rest) tree (x, r, same, one, behind) last =
    subst (ReturnsLast true) (sym same) (block_returns s (after_declaration p name) rest r behind last)
block_returns s p (assignment_shape start name value rest) tree (x, r, same, one, behind) last =
    assigned_returns true (heading_of p start) (meaning_at s p name.text) x r tree same
    (block_returns s (after_statement p) rest r behind last)
block_returns s p (element_assignment_shape start name index value rest) tree
    (f, i, x, r, same, array, at, one, behind) last =
    subst (ReturnsLast true) (sym same) (block_returns s (after_statement p) rest r behind last)
block_returns s p (branch_shape start guard first second rest) tree
    (x, t, u, r, same, one, front, middle, behind) last =
    let inside = after_statement p in
    let between = after_block inside first in
    subst (ReturnsLast true) (sym same) (
      never_returns false s inside first t front last.0,
      never_returns false s between second u middle last.1,
      block_returns s (after_block between second) rest r behind last.2,
    )
block_returns s p (loop_shape start guard body rest) tree (x, t, r, same, one, front, behind) last =
    let inside = after_statement p in
    subst (ReturnsLast true) (sym same) (
      never_returns false s inside body t front last.0,
      block_returns s (after_block inside body) rest r behind last.1,
    )
block_returns s p (call_shape start name args into rest) tree (f, xs, k, r, same, called, kept, all, behind) last =
    subst (ReturnsLast true) (sym same) (block_returns s (after_call p) rest r behind last)
block_returns s p (return_shape start value rest) tree (x, r, same, one, behind) last =
    subst (ReturnsLast true) (sym same) (refl, nothing_behind s (after_statement p) rest r last behind)

-- ---- all methods

pub returns_last : (principals : Declared) (draft : DraftShape) (tree : ProgramTree) → AreReturnedLast draft →
    IsProgramOf principals draft tree → All (λ method. ReturnsLast true method.body) tree.methods
returns_last principals draft tree returned is =
    each_method MethodReturnsLast _ principals (globals_of draft)
    (λ head method one made last. block_returns (setting_of principals (globals_of draft) method)
    (body_place head method) method.body one.body made.body last)
    [] draft.methods tree.methods is.is_tree.methods returned
