-- A method of a resolved program that has a result gives it back: its body ends in a `return`, as no fault says
-- otherwise, and nothing stands behind that.
use Rattle.std.proofs.Common.{◌≡◌, zero, suc, ℕ, Bool, true, false, not, ◌&&◌, List, [], ◌∷◌, ◌++◌, All, Option, Some}
use Rattle.std.proofs.Common.{None, slice_get, refl, ap, sym, ◌∙◌, subst, arith}
use Rattle.std.proofs.lemmas.Bool.{false≢true}
use Rattle.js_base.specs.declared.ids.VarId.{VarId}
use Rattle.js_base.proofs.Lists.{none_in_two}
use Rattle.principals.specs.ActsFor.{Declared}
use Rattle.jif_tree.specs.Results.{GivesBack, AreGivenBack}
use Rattle.jif_tree.specs.Trees.{ExprTree, Heading, BlockTree, set_local, set_field, MethodTree, ProgramTree}
use Rattle.jif_tree.specs.WellNumbered.{is_some}
use Rattle.jif_grammar.specs.DraftShapes.{BlockShape, end_shape, declaration_shape, assignment_shape}
use Rattle.jif_grammar.specs.DraftShapes.{element_assignment_shape, branch_shape, loop_shape, call_shape, return_shape}
use Rattle.jif_grammar.specs.DraftShapes.{MethodShape, DraftShape}
use Rattle.jif_resolve.specs.Faults.{ends_in_return, setting_of, method_faults, methods_faults}
use Rattle.jif_resolve.specs.Meanings.{Global, has_result, globals_of}
use Rattle.jif_resolve.specs.Places.{Setting, Place, after_statement, after_call, after_declaration, after_block}
use Rattle.jif_resolve.specs.Places.{meaning_at, head_after, body_place}
use Rattle.jif_resolve.specs.Resolved.{assignment_tree, heading_of, IsBlockFor, IsMethodFor, AreMethodsFor}
use Rattle.jif_resolve.specs.Returns.{ReturnsLast, MethodReturnsLast, AreReturnedLast}
use Rattle.jif_resolve.specs.Verdicts.{IsProgramOf}
use Rattle.jif_resolve.specs.declared.fault.FaultKind.TheVariants.{WrongType}
use Rattle.jif_resolve.proofs.CleanDrafts.{clean_draft}
use Rattle.jif_resolve.proofs.HasProgram.{clean_parts}
use Rattle.jif_resolve.proofs.Meant.{gives_result}
use Rattle.jif_resolve.proofs.Returning.{nothing_behind}
use Rattle.jif_resolve.proofs.Usable.{none_where}
use Rattle.jif_resolve.specs.declared.meaning.Meaning.{Meaning}
use Rattle.jif_resolve.specs.declared.meaning.Meaning.TheVariants as sense

-- ---- blocks

assigned_gives : (heading : Heading) (means : Option Meaning) (value : ExprTree) (rest tree : BlockTree) →
    assignment_tree heading means value rest ≡ Some tree → GivesBack rest → GivesBack tree
assigned_gives heading None value rest tree made gives = absurd cc
assigned_gives heading (Some (sense.Variable x)) value rest tree made gives =
    let same : set_local heading x value rest ≡ tree = cc in subst GivesBack same gives
assigned_gives heading (Some (sense.Plain field)) value rest tree made gives =
    let same : set_field heading field value rest ≡ tree = cc in subst GivesBack same gives
assigned_gives heading (Some (sense.Array field)) value rest tree made gives = absurd cc
assigned_gives heading (Some (sense.Method method params g)) value rest tree made gives = absurd cc

block_gives : (s : Setting) (p : Place) (b : BlockShape) (tree : BlockTree) → IsBlockFor s p b tree →
    ReturnsLast b → ends_in_return b ≡ true → GivesBack tree
block_gives s p end_shape tree is last ends = absurd (false≢true ends)
block_gives s p (declaration_shape start written name value rest) tree (x, r, same, one, behind) last ends =
    subst GivesBack (sym same) (block_gives s (after_declaration p name) rest r behind last ends)
block_gives s p (assignment_shape start name value rest) tree (x, r, same, one, behind) last ends =
    assigned_gives (heading_of p start) (meaning_at s p name.text) x r tree same
    (block_gives s (after_statement p) rest r behind last ends)
block_gives s p (element_assignment_shape start name index value rest) tree
    (f, i, x, r, same, array, at, one, behind) last ends =
    subst GivesBack (sym same) (block_gives s (after_statement p) rest r behind last ends)
block_gives s p (branch_shape start guard first second rest) tree (x, t, u, r, same, one, front, middle, behind) last
    ends =
    let between = after_block (after_statement p) first in
    subst GivesBack (sym same) (block_gives s (after_block between second) rest r behind last.2 ends)
block_gives s p (loop_shape start guard body rest) tree (x, t, r, same, one, front, behind) last ends =
    subst GivesBack (sym same) (block_gives s (after_block (after_statement p) body) rest r behind last.1 ends)
block_gives s p (call_shape start name args into rest) tree (f, xs, k, r, same, called, kept, all, behind) last ends =
    subst GivesBack (sym same) (block_gives s (after_call p) rest r behind last ends)
block_gives s p (return_shape start value rest) tree (x, r, same, one, behind) last ends =
    subst GivesBack (sym same) (nothing_behind s (after_statement p) rest r last behind)

-- ---- methods

ends_where : (gives ends : Bool) → gives ≡ true → gives && not ends ≡ false → ends ≡ true
ends_where true true is fits = refl
ends_where true false is fits = absurd (false≢true (sym fits))
ends_where false ends is fits = absurd (false≢true is)

method_gives : (principals : Declared) (globals : List Global) (head : Place) (method : MethodShape)
    (tree : MethodTree) (result : VarId) → IsMethodFor (setting_of principals globals method) head method tree →
    ReturnsLast method.body → method_faults (setting_of principals globals method) head method ≡ [] →
    tree.result ≡ Some result → GivesBack tree.body
method_gives principals globals head method tree result is last none has =
    let s = setting_of principals globals method in
    let ends = ends_in_return method.body in
    let gives : has_result method.result ≡ true = sym (gives_result s head method tree is) ∙ ap is_some has in
    let fits = none_where (has_result method.result && not ends) WrongType method.name.at
    (clean_parts s head method none).4 in
    block_gives s (body_place head method) method.body tree.body is.body last
    (ends_where (has_result method.result) ends gives fits)

methods_give : (principals : Declared) (globals : List Global) (before methods : List MethodShape)
    (trees : List MethodTree) → AreMethodsFor principals globals before methods trees → All MethodReturnsLast methods →
    methods_faults principals globals before methods ≡ [] → (place : ℕ) (tree : MethodTree) (result : VarId) →
    slice_get trees place ≡ Some tree → tree.result ≡ Some result → GivesBack tree.body
methods_give principals globals before [] trees is returned none place tree result at has =
    let nothing : slice_get [] place ≡ Some tree = ap (λ ts. slice_get ts place) (sym is) ∙ at in absurd cc
methods_give principals globals before (method ∷ methods) trees (first, others, same, one, behind) returned none zero
    tree result at has =
    let both = none_in_two (method_faults (setting_of principals globals method) (head_after before) method)
    (methods_faults principals globals (before ++ method ∷ []) methods) none in
    let here : Some first ≡ Some tree = ap (λ ts. slice_get ts zero) (sym same) ∙ at in
    let is_it : first ≡ tree = cc in
    method_gives principals globals (head_after before) method tree result
    (subst (IsMethodFor (setting_of principals globals method) (head_after before) method) is_it one)
    (returned 0 method (omega arith)) both.0 has
methods_give principals globals before (method ∷ methods) trees (first, others, same, one, behind) returned none
    (suc place) tree result at has =
    let both = none_in_two (method_faults (setting_of principals globals method) (head_after before) method)
    (methods_faults principals globals (before ++ method ∷ []) methods) none in
    methods_give principals globals (before ++ method ∷ []) methods others behind
    (λ k d less. returned (suc k) d (omega arith)) both.1 place tree result
    (ap (λ ts. slice_get ts (suc place)) (sym same) ∙ at) has

pub given_back : (principals : Declared) (draft : DraftShape) (tree : ProgramTree) → AreReturnedLast draft →
    IsProgramOf principals draft tree → AreGivenBack tree
given_back principals draft tree returned is place method result at has =
    methods_give principals (globals_of draft) [] draft.methods tree.methods is.is_tree.methods returned
    (clean_draft principals draft is.no_faults).1 place method result at has
