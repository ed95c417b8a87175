-- The variables of the methods of a draft stand in its program one after the other.
use Rattle.std.proofs.Common.{◌≡◌, ℕ, zero, suc, ◌+◌, if◌then◌else◌, List, [], ◌∷◌, ◌++◌, map, length, Option, Some}
use Rattle.std.proofs.Common.{None, slice_get, refl, ap, ◌∙◌, subst, arith}
use Rattle.std.specs.List.{AllZip}
use Rattle.std.proofs.lemmas.List.{length-append, length-map}
use Rattle.js_base.specs.declared.ids.MethodId.{MethodId}
use Rattle.principals.specs.ActsFor.{Declared}
use Rattle.jif_tree.specs.Trees.{VarTree, ProgramTree}
use Rattle.jif_grammar.specs.DraftShapes.{LabelShape, MethodShape, DraftShape}
use Rattle.jif_resolve.specs.AddedVariables.{param_variable, local_variable}
use Rattle.jif_resolve.specs.Counts.{locals_in}
use Rattle.jif_resolve.specs.Meanings.{has_result}
use Rattle.jif_resolve.specs.Places.{counted, variables_in}
use Rattle.jif_resolve.specs.Variables.{VariableShape, variables_from, method_variables, result_variables}
use Rattle.jif_resolve.specs.Resolved.{IsVariableFor}
use Rattle.jif_resolve.specs.Verdicts.{IsProgramOf}
use Rattle.jif_resolve.proofs.Meant.{from_start}
use Rattle.jif_resolve.proofs.Numbers.{one_counted}

-- the variables from this number on are those of the program
abbrev pub VariablesStand : Declared → ProgramTree → ℕ → List VariableShape → Type 0
VariablesStand principals program first variables =
    (i : ℕ) (v : VariableShape) → slice_get variables i ≡ Some v →
    (tree : VarTree) × (slice_get program.vars (first + i) ≡ Some tree) × IsVariableFor principals v tree

-- ---- all of them

zipped_at : (principals : Declared) (variables : List VariableShape) (trees : List VarTree) →
    AllZip (IsVariableFor principals) variables trees → (i : ℕ) (v : VariableShape) → slice_get variables i ≡ Some v →
    (tree : VarTree) × (slice_get trees i ≡ Some tree) × IsVariableFor principals v tree
zipped_at principals [] trees all i v is = absurd cc
zipped_at principals (w ∷ ws) [] all i v is = absurd all
zipped_at principals (w ∷ ws) (t ∷ ts) all zero v is =
    let same : w ≡ v = cc in (t, refl, subst (λ x. IsVariableFor principals x t) same all.0)
zipped_at principals (w ∷ ws) (t ∷ ts) all (suc i) v is = zipped_at principals ws ts all.1 i v is

pub all_stand : (principals : Declared) (draft : DraftShape) (tree : ProgramTree) → IsProgramOf principals draft tree →
    VariablesStand principals tree 0 (variables_from 0 draft.methods)
all_stand principals draft tree is i v here =
    let found = zipped_at principals (variables_from 0 draft.methods) tree.vars is.is_tree.vars i v here in
    (found.0, from_start tree.vars i found.0 found.1, found.2)

-- ---- those of some parts

in_front : {X : Type 0} (xs ys : List X) (i : ℕ) (x : X) → slice_get xs i ≡ Some x → slice_get (xs ++ ys) i ≡ Some x
in_front [] ys i x is = absurd cc
in_front (w ∷ xs) ys zero x is = is
in_front (w ∷ xs) ys (suc i) x is = in_front xs ys i x is

behind_front : {X : Type 0} (xs ys : List X) (k : ℕ) → slice_get (xs ++ ys) (length xs + k) ≡ slice_get ys k
behind_front [] ys k = let same : 0 + k ≡ k = omega arith in ap (slice_get ys) same
behind_front (x ∷ xs) ys k =
    let same : length (x ∷ xs) + k ≡ suc (length xs + k) = omega arith in
    ap (slice_get (x ∷ xs ++ ys)) same ∙ behind_front xs ys k

pub front_stands : (principals : Declared) (program : ProgramTree) (first : ℕ) (xs ys : List VariableShape) →
    VariablesStand principals program first (xs ++ ys) → VariablesStand principals program first xs
front_stands principals program first xs ys stands i v is = stands i v (in_front xs ys i v is)

pub back_stands : (principals : Declared) (program : ProgramTree) (first : ℕ) (xs ys : List VariableShape) →
    VariablesStand principals program first (xs ++ ys) → VariablesStand principals program (first + length xs) ys
back_stands principals program first xs ys stands i v is =
    let tree = stands (length xs + i) v (behind_front xs ys i ∙ is) in
    let same : first + length xs + i ≡ first + (length xs + i) = omega arith in
    (tree.0, ap (slice_get program.vars) same ∙ tree.1, tree.2)

-- ---- those of a method

result_long : (own : MethodId) (result : Option LabelShape) →
    length (result_variables own result) ≡ (if has_result result then 1 else 0)
result_long own None = refl
result_long own (Some label) = refl

-- parameters and locals
pub front_long : (own : MethodId) (method : MethodShape) →
    length (map (param_variable own) method.params ++ map (local_variable own) (locals_in method.body))
    ≡ length method.params + length (locals_in method.body)
front_long own method =
    let front = map (param_variable own) method.params in
    let middle = map (local_variable own) (locals_in method.body) in
    let both : length (front ++ middle) ≡ length front + length middle = length-append front middle in
    let one : length front ≡ length method.params = length-map method.params (param_variable own) in
    let two : length middle ≡ length (locals_in method.body) =
    length-map (locals_in method.body) (local_variable own) in
    omega arith

pub variables_long : (own : MethodId) (method : MethodShape) → length (method_variables own method)
    ≡ variables_in method
variables_long own method =
    let front = map (param_variable own) method.params ++ map (local_variable own) (locals_in method.body) in
    let back = result_variables own method.result in
    let both : length (front ++ back) ≡ length front + length back = length-append front back in
    let one : length front ≡ length method.params + length (locals_in method.body) = front_long own method in
    let two : length back ≡ (if has_result method.result then 1 else 0) = result_long own method.result in
    let last : ℕ = if has_result method.result then 1 else 0 in
    omega arith

pub other_variables : (principals : Declared) (program : ProgramTree) (own : MethodId) (before : List MethodShape)
    (method : MethodShape) (others : List VariableShape) →
    VariablesStand principals program (counted variables_in before) (method_variables own method ++ others) →
    VariablesStand principals program (counted variables_in (before ++ method ∷ [])) others
other_variables principals program own before method others stands =
    let mine = method_variables own method in
    let long : length mine ≡ variables_in method = variables_long own method in
    let more : counted variables_in (before ++ method ∷ []) ≡ counted variables_in before + variables_in method =
    one_counted variables_in before method in
    let same : counted variables_in before + length mine ≡ counted variables_in (before ++ method ∷ []) = omega arith in
    subst (λ n. VariablesStand principals program n others) same
    (back_stands principals program (counted variables_in before) mine others stands)
