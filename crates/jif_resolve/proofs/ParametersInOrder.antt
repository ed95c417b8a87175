-- The parameters of a method of a resolved program have numbers that rise in their order, since they count up.
use Rattle.std.proofs.Common.{◌≡◌, ◌<◌, ◌+◌, ℕ, zero, suc, List, [], ◌∷◌, Some, slice_get, ap, sym, ◌∙◌, arith}
use Rattle.js_base.specs.declared.ids.VarId.{VarId}
use Rattle.principals.specs.ActsFor.{Declared}
use Rattle.jif_tree.specs.Trees.{MethodTree, ProgramTree}
use Rattle.jif_grammar.specs.DraftShapes.{ParamShape, DraftShape}
use Rattle.jif_resolve.specs.Meanings.{globals_of}
use Rattle.jif_resolve.specs.Variables.{param_ids}
use Rattle.jif_resolve.specs.Verdicts.{IsProgramOf}
use Rattle.jif_resolve.proofs.EachMethod.{shape_at}

number_at : (from : ℕ) (params : List ParamShape) (place : ℕ) (x : VarId) →
    slice_get (param_ids from params) place ≡ Some x → x.0 ≡ from + place
number_at from [] place x at = absurd cc
number_at from (param ∷ params) zero x at =
    let id : VarId = record { 0 = from } in
    let here : Some id ≡ Some x = at in
    let same : id ≡ x = cc in
    let number : from ≡ x.0 = ap (λ (y : VarId). y.0) same in
    omega (arith, number)
number_at from (param ∷ params) (suc place) x at =
    let number = number_at (suc from) params place x at in
    omega (arith, number)

pub params_rise : (principals : Declared) (draft : DraftShape) (tree : ProgramTree) →
    IsProgramOf principals draft tree → (place first second : ℕ) (method : MethodTree) (x y : VarId) →
    slice_get tree.methods place ≡ Some method → slice_get method.params first ≡ Some x →
    slice_get method.params second ≡ Some y → first < second → x.0 < y.0
params_rise principals draft tree is place first second method x y at x_at y_at less =
    let found = shape_at principals (globals_of draft) [] draft.methods tree.methods is.is_tree.methods place method
    at in
    let ids = sym found.is.params in
    let from = found.head.first in
    let params = found.shape.params in
    let number_of_x = number_at from params first x (ap (λ xs. slice_get xs first) ids ∙ x_at) in
    let number_of_y = number_at from params second y (ap (λ xs. slice_get xs second) ids ∙ y_at) in
    omega (arith, number_of_x, number_of_y, less)
