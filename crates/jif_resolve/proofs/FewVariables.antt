-- A method of a resolved program has as many variables as that of its draft.
use Rattle.std.proofs.Common.{◌≡◌, ℕ, zero, suc, ◌+◌, ◌<◌, ◌==◌, Bool, true, false, if◌then◌else◌, List, [], ◌∷◌, ◌++◌}
use Rattle.std.proofs.Common.{map, length, Option, Some, None, slice_get, refl, ap, sym, ◌∙◌, arith}
use Rattle.std.specs.List.{AllZip, AllByRecursion, count_by}
use Rattle.std.specs.Prelude.{cond}
use Rattle.std.proofs.lemmas.Bool.Decides.{nat_tests}
use Rattle.std.proofs.lemmas.List.Sums.{sum_by-cons, sum_by-append, length-filter}
use Rattle.js_base.specs.declared.ids.MethodId.{MethodId}
use Rattle.js_base.specs.declared.ids.VarId.{VarId}
use Rattle.principals.specs.ActsFor.{Declared}
use Rattle.jif_tree.specs.Sizes as trees
use Rattle.jif_tree.specs.Sizes.{results_in}
use Rattle.jif_tree.specs.Trees.{VarTree, MethodTree, ProgramTree}
use Rattle.jif_grammar.specs.DraftShapes.{LabelShape, MethodShape, DraftShape}
use Rattle.jif_resolve.specs.AddedVariables.{param_variable, local_variable}
use Rattle.jif_resolve.specs.Counts.{locals_in}
use Rattle.jif_resolve.specs.Meanings.{has_result, globals_of}
use Rattle.jif_resolve.specs.Places.{variables_in}
use Rattle.jif_resolve.specs.Resolved.{IsVariableFor, IsTreeOf}
use Rattle.jif_resolve.specs.Sizes.{declared_in}
use Rattle.jif_resolve.specs.Variables.{VariableShape, result_variables, method_variables, variables_from}
use Rattle.jif_resolve.proofs.EachMethod.{shape_at}
use Rattle.jif_resolve.proofs.Meant.{both_all}
use Rattle.jif_resolve.proofs.StandingVariables.{variables_long}

-- ---- whose variables

abbrev IsOf : MethodId → VariableShape → Type 0
IsOf own variable = variable.method ≡ own

mapped_of : {X : Type 0} (own : MethodId) (variable : X → VariableShape) → ((x : X) → IsOf own (variable x)) →
    (xs : List X) → AllByRecursion (IsOf own) (map variable xs)
mapped_of own variable is [] = tt
mapped_of own variable is (x ∷ xs) = (is x, mapped_of own variable is xs)

result_of : (own : MethodId) (result : Option LabelShape) → AllByRecursion (IsOf own) (result_variables own result)
result_of own None = tt
result_of own (Some label) = (refl, tt)

all_of_method : (own : MethodId) (method : MethodShape) → AllByRecursion (IsOf own) (method_variables own method)
all_of_method own method =
    let params : List VariableShape = map (param_variable own) method.params in
    let locals : List VariableShape = map (local_variable own) (locals_in method.body) in
    both_all (IsOf own) (params ++ locals) (result_variables own method.result)
    (both_all (IsOf own) params locals
    (mapped_of own (param_variable own) (λ param. refl) method.params)
    (mapped_of own (local_variable own) (λ local. refl) (locals_in method.body)))
    (result_of own method.result)

-- ---- how many belong to a method

abbrev belongs : ℕ → VariableShape → Bool
belongs number variable = variable.method.0 == number

one_more : (is : Bool) (n : ℕ) → cond is 1 0 + cond is n 0 ≡ cond is (suc n) 0
one_more true n = omega arith
one_more false n = refl

none_counted : (is : Bool) → ◌≡◌ {A = ℕ} 0 (cond is 0 0)
none_counted true = refl
none_counted false = refl

own_counted : (number : ℕ) (own : MethodId) (variables : List VariableShape) → AllByRecursion (IsOf own) variables →
    count_by (belongs number) variables ≡ cond (own.0 == number) (length variables) 0
own_counted number own [] all = none_counted (own.0 == number)
own_counted number own (variable ∷ variables) all =
    sum_by-cons (λ v. cond (belongs number v) 1 0) variable variables
    ∙ ap (λ (m : MethodId). cond (m.0 == number) 1 0 + count_by (belongs number) variables) all.0
    ∙ ap (λ (n : ℕ). cond (own.0 == number) 1 0 + n) (own_counted number own variables all.1)
    ∙ one_more (own.0 == number) (length variables)

method_counted : (number own : ℕ) (method : MethodShape) →
    count_by (belongs number) (method_variables (record { 0 = own }) method)
    ≡ cond (own == number) (variables_in method) 0
method_counted number own method =
    let id : MethodId = record { 0 = own } in
    own_counted number id (method_variables id method) (all_of_method id method)
    ∙ ap (λ n. cond (own == number) n 0) (variables_long id method)

two_counted : (number own : ℕ) (method : MethodShape) (methods : List MethodShape) →
    count_by (belongs number) (variables_from own (method ∷ methods))
    ≡ cond (own == number) (variables_in method) 0
    + count_by (belongs number) (variables_from (suc own) methods)
two_counted number own method methods =
    sum_by-append (λ v. cond (belongs number v) 1 0) (method_variables (record { 0 = own }) method)
    (variables_from (suc own) methods)
    ∙ ap (λ (n : ℕ). n + count_by (belongs number) (variables_from (suc own) methods))
    (method_counted number own method)

not_same : (n m : ℕ) → ¬ (m ≡ n) → (m == n) ≡ false
not_same n m other = grind (arith, nat_tests)

same_number : (n m : ℕ) → m ≡ n → (m == n) ≡ true
same_number n m same = grind (arith, nat_tests)

-- a method of another number counts nothing
others_counted : (number own : ℕ) (method : MethodShape) (methods : List MethodShape) → (own == number) ≡ false →
    count_by (belongs number) (variables_from own (method ∷ methods))
    ≡ count_by (belongs number) (variables_from (suc own) methods)
others_counted number own method methods other =
    two_counted number own method methods
    ∙ ap (λ is. cond is (variables_in method) 0 + count_by (belongs number) (variables_from (suc own) methods)) other
    ∙ behind (count_by (belongs number) (variables_from (suc own) methods))
  where
    behind : (n : ℕ) → 0 + n ≡ n
    behind n = omega arith

none_behind : (number own : ℕ) (methods : List MethodShape) → number < own →
    count_by (belongs number) (variables_from own methods) ≡ 0
none_behind number own [] less = refl
none_behind number own (method ∷ methods) less =
    others_counted number own method methods (not_same number own (λ same. omega (arith, less, same)))
    ∙ none_behind number (suc own) methods (omega (arith, less))

variables_counted : (number own : ℕ) (methods : List MethodShape) (place : ℕ) (method : MethodShape) →
    own + place ≡ number → slice_get methods place ≡ Some method →
    count_by (belongs number) (variables_from own methods) ≡ variables_in method
variables_counted number own [] place method is at = absurd cc
variables_counted number own (m ∷ methods) zero method is at =
    let here : m ≡ method = cc in
    let whole : count_by (belongs number) (variables_from own (m ∷ methods))
    ≡ variables_in m + count_by (belongs number) (variables_from (suc own) methods) =
    two_counted number own m methods
    ∙ ap (λ same. cond same (variables_in m) 0 + count_by (belongs number) (variables_from (suc own) methods))
    (same_number number own (omega (arith, is))) in
    let rest = none_behind number (suc own) methods (omega (arith, is)) in
    whole ∙ ap (λ (n : ℕ). variables_in m + n) rest ∙ last (variables_in m) ∙ ap variables_in here
  where
    last : (n : ℕ) → n + 0 ≡ n
    last n = omega arith
variables_counted number own (m ∷ methods) (suc place) method is at =
    others_counted number own m methods (not_same number own (λ same. omega (arith, is, same)))
    ∙ variables_counted number (suc own) methods place method (omega (arith, is)) at

-- ---- programs

same_count : (principals : Declared) (number : ℕ) (variables : List VariableShape) (trees : List VarTree) →
    AllZip (IsVariableFor principals) variables trees →
    count_by (λ (tree : VarTree). tree.method.0 == number) trees ≡ count_by (belongs number) variables
same_count principals number [] [] are = refl
same_count principals number [] (tree ∷ trees) are = absurd are
same_count principals number (variable ∷ variables) [] are = absurd are
same_count principals number (variable ∷ variables) (tree ∷ trees) are =
    sum_by-cons (λ (t : VarTree). cond (t.method.0 == number) 1 0) tree trees
    ∙ ap (λ (m : MethodId). cond (m.0 == number) 1 0 + count_by (λ (t : VarTree). t.method.0 == number) trees)
    are.0.method
    ∙ ap (λ (n : ℕ). cond (belongs number variable) 1 0 + n) (same_count principals number variables trees are.1)
    ∙ sym (sum_by-cons (λ v. cond (belongs number v) 1 0) variable variables)

result_counted : (gives : Bool) (result : VarId) →
    results_in (if gives then Some result else None) ≡ (if gives then 1 else 0)
result_counted true result = refl
result_counted false result = refl

-- the declared variables of the draft's method, and a result where there is one
pub variables_in_method : (principals : Declared) (draft : DraftShape) (tree : ProgramTree) →
    IsTreeOf principals draft tree → (number : ℕ) (method : MethodTree) → slice_get tree.methods number ≡ Some method →
    (shape : MethodShape) × (slice_get draft.methods number ≡ Some shape)
    × (length (trees.variables_in tree number) ≡ declared_in shape + results_in method.result)
variables_in_method principals draft tree is number method at =
    let found = shape_at principals (globals_of draft) [] draft.methods tree.methods is.methods number method at in
    let shape = found.shape in
    let results : ℕ = if has_result shape.result then 1 else 0 in
    let result : results_in method.result ≡ results =
    ap results_in found.is.result ∙ result_counted (has_result shape.result) _ in
    let long : length (trees.variables_in tree number) ≡ declared_in shape + results =
    length-filter (λ (t : VarTree). t.method.0 == number) tree.vars
    ∙ same_count principals number (variables_from 0 draft.methods) tree.vars is.vars
    ∙ variables_counted number 0 draft.methods number shape (omega arith) found.at in
    (shape, found.at, long ∙ ap (λ (n : ℕ). declared_in shape + n) (sym result))
