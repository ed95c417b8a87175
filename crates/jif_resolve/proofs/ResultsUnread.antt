-- No expression of a resolved program reads a result. The variables that a method knows stand before its result, so
-- its body has the right numbers even without the variables from there on; and a result of another method is none of
-- its variables.
use Rattle.std.proofs.Common.{◌≡◌, ℕ, zero, suc, ◌+◌, ◌<◌, ◌≤◌, Bool, true, false, if◌then◌else◌, List, [], ◌∷◌, ◌++◌}
use Rattle.std.proofs.Common.{length, take, Some, None, slice_get, refl, ap, sym, ◌∙◌, subst, arith}
use Rattle.std.specs.List.{AllByRecursion}
use Rattle.js_base.specs.declared.ids.VarId.{VarId}
use Rattle.js_base.specs.declared.ids.MethodId.{MethodId}
use Rattle.js_base.proofs.Lists.{none_in_two}
use Rattle.principals.specs.ActsFor.{Declared}
use Rattle.jif_tree.specs.Results.{IsNoResult, ReadsNoResult, BlockReadsNoResult, AreUnread}
use Rattle.jif_tree.specs.Trees.{ExprTree, number, local, scalar, element, inverted, negated, binary, declassified}
use Rattle.jif_tree.specs.Trees.{endorsed, BlockTree, done, set_local, set_field, set_element, branch, loop}
use Rattle.jif_tree.specs.Trees.{call, give_back, MethodTree, ProgramTree}
use Rattle.jif_tree.specs.WellNumbered.{HasVariable, HasOptionalVariable, IsExprIn, IsBlockIn, IsMethodIn, AreMethodsIn}
use Rattle.jif_grammar.specs.DraftShapes.{MethodShape, DraftShape}
use Rattle.jif_resolve.specs.Counts.{locals_in}
use Rattle.jif_resolve.specs.Faults.{setting_of, method_faults, methods_faults}
use Rattle.jif_resolve.specs.Meanings.{Global, has_result, fields_from, methods_from, globals_of}
use Rattle.jif_resolve.specs.Places.{head_after, body_place, counted, variables_in}
use Rattle.jif_resolve.specs.Resolved.{IsMethodFor, AreMethodsFor}
use Rattle.jif_resolve.specs.Variables.{variables_from, method_variables}
use Rattle.jif_resolve.specs.Verdicts.{IsProgramOf}
use Rattle.jif_resolve.proofs.CleanDrafts.{clean_draft}
use Rattle.jif_resolve.proofs.HasProgram.{clean_parts}
use Rattle.jif_resolve.proofs.Meant.{GlobalIs, StandsFrom, from_start, head_stands, tail_stands, fields_are}
use Rattle.jif_resolve.proofs.Meant.{methods_are, both_all}
use Rattle.jif_resolve.proofs.StandingVariables.{VariablesStand, all_stand, front_stands, other_variables}
use Rattle.jif_resolve.proofs.WellNumbered.{params_first, params_earlier, params_known, own_variables, well_numbered}
use Rattle.jif_resolve.proofs.Within.{HasVariables, block_in}

-- ---- a program without the variables from a number on

abbrev front_of : ProgramTree → ℕ → ProgramTree
front_of program last = record program { vars = take last program.vars }

taken_at : {X : Type 0} (xs : List X) (n i : ℕ) (x : X) → slice_get (take n xs) i ≡ Some x →
    (i < n) × (slice_get xs i ≡ Some x)
taken_at xs zero i x is = absurd cc
taken_at [] (suc n) i x is = absurd cc
taken_at (w ∷ xs) (suc n) zero x is = (omega arith, is)
taken_at (w ∷ xs) (suc n) (suc i) x is =
    let rest = taken_at xs n i x is in
    let less : i < n = rest.0 in
    (omega arith, rest.1)

kept_at : {X : Type 0} (xs : List X) (n i : ℕ) (x : X) → slice_get xs i ≡ Some x → i < n →
    slice_get (take n xs) i ≡ Some x
kept_at xs zero i x is less = absurd (omega (arith, less))
kept_at [] (suc n) i x is less = absurd cc
kept_at (w ∷ xs) (suc n) zero x is less = is
kept_at (w ∷ xs) (suc n) (suc i) x is less = kept_at xs n i x is (omega (arith, less))

-- ---- what reads only variables that are no results

-- the variables that a method has in a part of the program are no results of the program
abbrev AreNoResults : ProgramTree → ProgramTree → MethodId → Type 0
AreNoResults program part own = (x : VarId) → HasVariable part own x → IsNoResult program x

expr_unread : (program part : ProgramTree) (own : MethodId) → AreNoResults program part own → (e : ExprTree) →
    IsExprIn part own e → ReadsNoResult program e
expr_unread program part own none (number value) is = tt
expr_unread program part own none (local x) is = none x is
expr_unread program part own none (scalar field) is = tt
expr_unread program part own none (element field index) is = expr_unread program part own none index is.1
expr_unread program part own none (inverted operand) is = expr_unread program part own none operand is
expr_unread program part own none (negated operand) is = expr_unread program part own none operand is
expr_unread program part own none (binary operator left right) is =
    (expr_unread program part own none left is.0, expr_unread program part own none right is.1)
expr_unread program part own none (declassified operand label) is = expr_unread program part own none operand is
expr_unread program part own none (endorsed operand label) is = expr_unread program part own none operand is

args_unread : (program part : ProgramTree) (own : MethodId) → AreNoResults program part own → (args : List ExprTree) →
    AllByRecursion (IsExprIn part own) args → AllByRecursion (ReadsNoResult program) args
args_unread program part own none [] all = tt
args_unread program part own none (e ∷ es) all =
    (expr_unread program part own none e all.0, args_unread program part own none es all.1)

block_unread : (program part : ProgramTree) (own : MethodId) (gives : Bool) → AreNoResults program part own →
    (b : BlockTree) → IsBlockIn part own gives b → BlockReadsNoResult program b
block_unread program part own gives none done is = tt
block_unread program part own gives none (set_local heading x value rest) is =
    (expr_unread program part own none value is.1, block_unread program part own gives none rest is.2)
block_unread program part own gives none (set_field heading field value rest) is =
    (expr_unread program part own none value is.1, block_unread program part own gives none rest is.2)
block_unread program part own gives none (set_element heading field index value rest) is = (
  expr_unread program part own none index is.1,
  expr_unread program part own none value is.2,
  block_unread program part own gives none rest is.3,
)
block_unread program part own gives none (branch heading guard first second rest) is = (
  expr_unread program part own none guard is.0,
  block_unread program part own gives none first is.1,
  block_unread program part own gives none second is.2,
  block_unread program part own gives none rest is.3,
)
block_unread program part own gives none (loop heading guard inner rest) is = (
  expr_unread program part own none guard is.0,
  block_unread program part own gives none inner is.1,
  block_unread program part own gives none rest is.2,
)
block_unread program part own gives none (call heading site method args into rest) is =
    (args_unread program part own none args is.1, block_unread program part own gives none rest is.3)
block_unread program part own gives none (give_back heading value rest) is =
    (expr_unread program part own none value is.1, block_unread program part own gives none rest is.2)

-- ---- what stands before the result of a method

method_at_place : (program : ProgramTree) (first : ℕ) (methods : List MethodTree) → AreMethodsIn program first methods →
    (place : ℕ) (method : MethodTree) → slice_get methods place ≡ Some method →
    IsMethodIn program (record { 0 = first + place }) method
method_at_place program first [] all place method at = absurd cc
method_at_place program first (m ∷ methods) all zero method at =
    let same : m ≡ method = cc in
    let start : first ≡ first + 0 = omega arith in
    subst (λ n. IsMethodIn program (record { 0 = n }) method) start
    (subst (IsMethodIn program (record { 0 = first })) same all.0)
method_at_place program first (m ∷ methods) all (suc place) method at =
    let next : suc first + place ≡ first + suc place = omega arith in
    subst (λ n. IsMethodIn program (record { 0 = n }) method) next
    (method_at_place program (suc first) methods all.1 place method at)

-- a result is a variable of its own method, which has one result
no_results : (program : ProgramTree) (place last : ℕ) (tree : MethodTree) → AreMethodsIn program 0 program.methods →
    slice_get program.methods place ≡ Some tree → ((r : VarId) → tree.result ≡ Some r → r.0 ≡ last) →
    AreNoResults program (front_of program last) (record { 0 = place })
no_results program place last tree all here result x (variable, at, of) other method there is =
    let taken = taken_at program.vars last x.0 variable at in
    let less : x.0 < last = taken.0 in
    let its : MethodId = record { 0 = 0 + other } in
    let own : MethodId = record { 0 = place } in
    let has : HasVariable program its x =
    subst (HasOptionalVariable program its) is
    (method_at_place program 0 program.methods all other method there).result in
    let both : Some variable ≡ Some has.0 = sym taken.1 ∙ has.1 in
    let one_variable : variable ≡ has.0 = cc in
    let one_method : own ≡ its = sym of ∙ ap (λ v. v.method) one_variable ∙ has.2 in
    let one_number : place ≡ 0 + other = ap (λ m. m.0) one_method in
    let one_place : place ≡ other = omega arith in
    let both_methods : Some tree ≡ Some method = sym here ∙ ap (slice_get program.methods) one_place ∙ there in
    let one_tree : tree ≡ method = cc in
    let number_is : x.0 ≡ last = result x (ap (λ m. m.result) one_tree ∙ is) in
    absurd (omega arith)

result_last : (gives : Bool) (last : ℕ) (r : VarId) →
    (if gives then Some (record { 0 = last }) else None) ≡ Some r → r.0 ≡ last
result_last true last r is =
    let id : VarId = record { 0 = last } in
    let same : id ≡ r = cc in ap (λ x. x.0) (sym same)
result_last false last r is = absurd cc

-- ---- methods

-- whatever variables are left out, names of the whole program stand for what is there
abbrev AreGlobalsIn : ProgramTree → List Global → Type 0
AreGlobalsIn program globals = (last : ℕ) → AllByRecursion (GlobalIs (front_of program last)) globals

method_unread : (principals : Declared) (program : ProgramTree) (globals : List Global) (place : ℕ)
    (before : List MethodShape) (method : MethodShape) (tree : MethodTree) → AreGlobalsIn program globals →
    AreMethodsIn program 0 program.methods → slice_get program.methods place ≡ Some tree →
    HasVariables program (record { 0 = place }) (counted variables_in before) (variables_in method) →
    method_faults (setting_of principals globals method) (head_after before) method ≡ [] →
    IsMethodFor (setting_of principals globals method) (head_after before) method tree →
    BlockReadsNoResult program tree.body
method_unread principals program globals place before method tree all_globals all here vars none is =
    let s = setting_of principals globals method in
    let head = head_after before in
    let own : MethodId = record { 0 = place } in
    let first = counted variables_in before in
    let params = length method.params in
    let locals = length (locals_in method.body) in
    let size = params + locals in
    let last = first + params + locals in
    let result : ℕ = if has_result method.result then 1 else 0 in
    let total : variables_in method ≡ params + locals + result = refl in
    let part = front_of program last in
    let front : HasVariables part own first size =
    λ k less.
    let more : k < variables_in method = omega arith in
    let within : first + k < last = omega arith in
    let v = vars k more in
    (v.0, kept_at program.vars last (first + k) v.0 v.1 within, v.2) in
    let same_first : (body_place head method).first ≡ first = params_first head method.params in
    let inside : HasVariables part own (body_place head method).first size =
    subst (λ n. HasVariables part own n size) (sym same_first) front in
    let earlier : length (body_place head method).earlier ≡ 0 + params = params_earlier head method.params in
    let room : length (body_place head method).earlier + locals ≤ size = omega arith in
    let known = params_known part own size head front tt method.params
    (let left : 0 + params ≤ size = omega arith in left) in
    let body : IsBlockIn part own s.gives tree.body =
    block_in part own s size (all_globals last) (body_place head method) inside known method.body room
    (clean_parts s head method none).5 tree.body is.body in
    block_unread program part own s.gives
    (no_results program place last tree all here
    (λ r has. result_last (has_result method.result) last r (sym is.result ∙ has)))
    tree.body body

methods_unread : (principals : Declared) (program : ProgramTree) (globals : List Global) →
    AreGlobalsIn program globals → AreMethodsIn program 0 program.methods → (first : ℕ)
    (before methods : List MethodShape) (trees : List MethodTree) →
    VariablesStand principals program (counted variables_in before) (variables_from first methods) →
    methods_faults principals globals before methods ≡ [] →
    AreMethodsFor principals globals before methods trees → StandsFrom program.methods first trees → (place : ℕ)
    (tree : MethodTree) → slice_get trees place ≡ Some tree → BlockReadsNoResult program tree.body
methods_unread principals program globals all_globals all first before [] trees stand none is stands place tree at =
    let nothing : slice_get [] place ≡ Some tree = ap (λ ts. slice_get ts place) (sym is) ∙ at in absurd cc
methods_unread principals program globals all_globals all first before (method ∷ methods) trees stand none
    (t, ts, same, one, behind) stands zero tree at =
    let own : MethodId = record { 0 = first } in
    let others = variables_from (suc first) methods in
    let both = none_in_two (method_faults (setting_of principals globals method) (head_after before) method)
    (methods_faults principals globals (before ++ method ∷ []) methods) none in
    let here : StandsFrom program.methods first (t ∷ ts) = subst (StandsFrom program.methods first) same stands in
    let found : Some t ≡ Some tree = ap (λ xs. slice_get xs zero) (sym same) ∙ at in
    let is_it : t ≡ tree = cc in
    subst (λ m. BlockReadsNoResult program m.body) is_it
    (method_unread principals program globals first before method t all_globals all
    (head_stands program.methods first t ts here)
    (own_variables principals program own (counted variables_in before) method
    (front_stands principals program (counted variables_in before) (method_variables own method) others stand))
    both.0 one)
methods_unread principals program globals all_globals all first before (method ∷ methods) trees stand none
    (t, ts, same, one, behind) stands (suc place) tree at =
    let own : MethodId = record { 0 = first } in
    let both = none_in_two (method_faults (setting_of principals globals method) (head_after before) method)
    (methods_faults principals globals (before ++ method ∷ []) methods) none in
    let here : StandsFrom program.methods first (t ∷ ts) = subst (StandsFrom program.methods first) same stands in
    methods_unread principals program globals all_globals all (suc first) (before ++ method ∷ []) methods ts
    (other_variables principals program own before method (variables_from (suc first) methods) stand) both.1 behind
    (tail_stands program.methods first t ts here) place tree (ap (λ xs. slice_get xs (suc place)) (sym same) ∙ at)

globals_in : (principals : Declared) (draft : DraftShape) (tree : ProgramTree) → IsProgramOf principals draft tree →
    AreGlobalsIn tree (globals_of draft)
globals_in principals draft tree is last =
    let part = front_of tree last in
    both_all (GlobalIs part) (fields_from 0 draft.fields) (methods_from 0 draft.methods)
    (fields_are part principals 0 draft.fields tree.fields is.is_tree.fields (from_start tree.fields))
    (methods_are part principals (globals_of draft) 0 [] draft.methods tree.methods is.is_tree.methods
    (from_start tree.methods))

pub unread : (principals : Declared) (draft : DraftShape) (tree : ProgramTree) → IsProgramOf principals draft tree →
    AreUnread tree
unread principals draft tree is =
    methods_unread principals tree (globals_of draft) (globals_in principals draft tree is)
    (well_numbered principals draft tree is).methods 0 [] draft.methods tree.methods
    (all_stand principals draft tree is) (clean_draft principals draft is.no_faults).1 is.is_tree.methods
    (from_start tree.methods)
