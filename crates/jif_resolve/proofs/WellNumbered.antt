-- The numbers of a program stand for what is there.
use Rattle.std.proofs.Common.{◌≡◌, ℕ, zero, suc, ◌+◌, ◌<◌, ◌≤◌, ◌==◌, inl, inr, Bool, true, false, not, ◌&&◌}
use Rattle.std.proofs.Common.{if◌then◌else◌, List, [], ◌∷◌, ◌++◌, map, length, Option, Some, None, slice_get, refl, ap}
use Rattle.std.proofs.Common.{sym, ◌∙◌, subst, arith, rules}
use Rattle.std.specs.Prelude.{codes}
use Rattle.std.specs.List.{AllByRecursion, flat_map}
use Rattle.std.specs.Str.{bytes_eq}
use Rattle.std.proofs.lemmas.Bool.{false≢true, and_parts}
use Rattle.std.proofs.lemmas.List.{length-append}
use Rattle.js_base.specs.declared.ids.VarId.{VarId}
use Rattle.js_base.specs.declared.ids.MethodId.{MethodId}
use Rattle.js_base.proofs.Lists.{none_in_two, none_in_three}
use Rattle.principals.specs.ActsFor.{Declared}
use Rattle.jif_tree.specs.Trees.{MethodTree, ProgramTree}
use Rattle.jif_tree.specs.WellNumbered.{is_some, HasVariable, HasOptionalVariable, HasMethod, IsBlockIn, IsMethodIn}
use Rattle.jif_tree.specs.WellNumbered.{AreMethodsIn, IsWellNumbered}
use Rattle.jif_grammar.specs.DraftShapes.{LabelShape, ParamShape, MethodShape, DraftShape}
use Rattle.jif_resolve.specs.AddedVariables.{param_variable, local_variable}
use Rattle.jif_resolve.specs.Counts.{LocalShape, locals_in}
use Rattle.jif_resolve.specs.Meanings.{Global, has_result, fields_from, methods_from, globals_of, is_main, main_from}
use Rattle.jif_resolve.specs.Places.{Setting, Place, after_variable, after_params, head_after, body_place, counted}
use Rattle.jif_resolve.specs.Places.{variables_in}
use Rattle.jif_resolve.specs.Faults.{setting_of, method_faults, methods_faults, label_faults, global_faults}
use Rattle.jif_resolve.specs.Variables.{variables_from, method_variables, result_variables, param_ids}
use Rattle.jif_resolve.specs.Resolved.{IsMethodFor, AreMethodsFor}
use Rattle.jif_resolve.specs.Verdicts.{IsProgramOf}
use Rattle.jif_resolve.proofs.HasProgram.{clean_parts}
use Rattle.jif_resolve.proofs.Meant.{GlobalIs, AreKnownIn, StandsFrom, from_start, head_stands, tail_stands, fields_are}
use Rattle.jif_resolve.proofs.Meant.{gives_result, methods_are, method_there, both_all}
use Rattle.jif_resolve.proofs.StandingVariables.{VariablesStand, all_stand, front_stands, variables_long}
use Rattle.jif_resolve.proofs.StandingVariables.{other_variables}
use Rattle.jif_resolve.proofs.Usable.{true_or_false}
use Rattle.jif_resolve.proofs.Within.{HasVariables, block_in}

-- ---- parameters

pub params_first : (p : Place) (params : List ParamShape) → (after_params p params).first ≡ p.first
params_first p [] = refl
params_first p (param ∷ params) = params_first (after_variable p param.name) params

pub params_earlier : (p : Place) (params : List ParamShape) →
    length (after_params p params).earlier ≡ length p.earlier + length params
params_earlier p [] = omega arith
params_earlier p (param ∷ params) =
    let rest : length (after_params (after_variable p param.name) params).earlier
    ≡ length (p.earlier ++ param.name.text ∷ []) + length params =
    params_earlier (after_variable p param.name) params in
    let grown : length (p.earlier ++ param.name.text ∷ []) ≡ length p.earlier + length (param.name.text ∷ []) =
    length-append p.earlier (param.name.text ∷ []) in
    omega arith

pub params_known : (program : ProgramTree) (own : MethodId) (size : ℕ) (p : Place) →
    HasVariables program own p.first size → AreKnownIn program own p.known → (params : List ParamShape) →
    length p.earlier + length params ≤ size → AreKnownIn program own (after_params p params).known
params_known program own size p vars known [] room = known
params_known program own size p vars known (param ∷ params) room =
    let grown : length (p.earlier ++ param.name.text ∷ []) ≡ length p.earlier + length (param.name.text ∷ []) =
    length-append p.earlier (param.name.text ∷ []) in
    params_known program own size (after_variable p param.name) vars
    (vars (length p.earlier) (omega arith), known) params
    (let left : length (p.earlier ++ param.name.text ∷ []) + length params ≤ size = omega arith in left)

params_in : (program : ProgramTree) (own : MethodId) (first : ℕ) (params : List ParamShape) →
    HasVariables program own first (length params) → AllByRecursion (HasVariable program own) (param_ids first params)
params_in program own first [] vars = tt
params_in program own first (param ∷ params) vars =
    let id : ℕ → VarId = λ n. record { 0 = n } in
    let start : first + 0 ≡ first = omega arith in (
      subst (λ n. HasVariable program own (id n)) start
          (vars 0 (let less : 0 < length (param ∷ params) = omega arith in less)),
      params_in program own (suc first) params
          (λ k less. subst (λ n. HasVariable program own (id n))
          (let same : first + suc k ≡ suc first + k = omega arith in same)
          (vars (suc k) (let more : suc k < length (param ∷ params) = omega arith in more))),
    )

result_in : (program : ProgramTree) (own : MethodId) (gives : Bool) (first size : ℕ) →
    HasVariables program own first (size + (if gives then 1 else 0)) →
    HasOptionalVariable program own (if gives then Some (record { 0 = first + size }) else None)
result_in program own true first size vars = vars size (omega arith)
result_in program own false first size vars = tt

-- ---- one method

method_in : (program : ProgramTree) (own : MethodId) (s : Setting) (before : List MethodShape) (method : MethodShape)
    (tree : MethodTree) → s.gives ≡ has_result method.result → AllByRecursion (GlobalIs program) s.globals →
    HasVariables program own (counted variables_in before) (variables_in method) →
    method_faults s (head_after before) method ≡ [] → IsMethodFor s (head_after before) method tree →
    IsMethodIn program own tree
method_in program own s before method tree gives globals vars none is =
    let head = head_after before in
    let first = counted variables_in before in
    let parts = clean_parts s head method none in
    let params = length method.params in
    let locals = length (locals_in method.body) in
    let result : ℕ = if has_result method.result then 1 else 0 in
    let total : variables_in method ≡ params + locals + result = refl in
    let same_first : (body_place head method).first ≡ first = params_first head method.params in
    let there : HasVariables program own (body_place head method).first (variables_in method) =
    subst (λ n. HasVariables program own n (variables_in method)) (sym same_first) vars in
    let earlier : length (body_place head method).earlier ≡ 0 + params = params_earlier head method.params in
    let room : length (body_place head method).earlier + locals ≤ variables_in method = omega arith in
    let known = params_known program own (variables_in method) head vars tt method.params
    (let left : 0 + params ≤ variables_in method = omega arith in left) in
    let body : IsBlockIn program own s.gives tree.body =
    block_in program own s (variables_in method) globals (body_place head method) there known method.body room
    parts.5 tree.body is.body in
    let of_result : is_some tree.result ≡ s.gives = gives_result s head method tree is ∙ sym gives in
    record {
      params = subst (AllByRecursion (HasVariable program own)) (sym is.params)
          (params_in program own first method.params
          (λ k less. vars k (let more : k < variables_in method = omega arith in more)));
      result = subst (HasOptionalVariable program own) (sym is.result)
          (result_in program own (has_result method.result) (first + params) locals
          (λ k less. subst (λ n. HasVariable program own (record { 0 = n }))
          (let same : first + (params + k) ≡ first + params + k = omega arith in same)
          (vars (params + k) (let more : params + k < variables_in method = omega arith in more))));
      body = subst (λ g. IsBlockIn program own g tree.body) (sym of_result) body;
    }

-- ---- the variables of methods

all_at : {X : Type 0} (P : X → Type 0) (xs : List X) (k : ℕ) → AllByRecursion P xs → k < length xs →
    (x : X) × (slice_get xs k ≡ Some x) × P x
all_at P [] k all less = absurd (let wrong : k < 0 = less in omega arith)
all_at P (x ∷ xs) zero all less = (x, refl, all.0)
all_at P (x ∷ xs) (suc k) all less =
    all_at P xs k all.1 (let more : suc k < length (x ∷ xs) = less in let same : k < length xs = omega arith in same)

params_own : (own : MethodId) (params : List ParamShape) →
    AllByRecursion (λ v. v.method ≡ own)
    (map (param_variable own) params)
params_own own [] = tt
params_own own (param ∷ params) = (refl, params_own own params)

locals_own : (own : MethodId) (locals : List LocalShape) →
    AllByRecursion (λ v. v.method ≡ own)
    (map (local_variable own) locals)
locals_own own [] = tt
locals_own own (local ∷ locals) = (refl, locals_own own locals)

result_own : (own : MethodId) (result : Option LabelShape) →
    AllByRecursion (λ v. v.method ≡ own) (result_variables own result)
result_own own None = tt
result_own own (Some label) = (refl, tt)

all_own : (own : MethodId) (method : MethodShape) →
    AllByRecursion (λ v. v.method ≡ own) (method_variables own method)
all_own own method =
    both_all (λ v. v.method ≡ own) _ (result_variables own method.result)
    (both_all (λ v. v.method ≡ own) _ _ (params_own own method.params) (locals_own own (locals_in method.body)))
    (result_own own method.result)

pub own_variables : (principals : Declared) (program : ProgramTree) (own : MethodId) (first : ℕ)
    (method : MethodShape) →
    VariablesStand principals program first (method_variables own method) →
    HasVariables program own first (variables_in method)
own_variables principals program own first method stands k less =
    let v = all_at (λ v. v.method ≡ own) (method_variables own method) k (all_own own method)
    (let long : length (method_variables own method) ≡ variables_in method = variables_long own method in
    let here : k < length (method_variables own method) = omega arith in here) in
    let tree = stands k v.0 v.1 in
    (tree.0, tree.1, tree.2.method ∙ v.2)

-- ---- all methods

methods_in : (program : ProgramTree) (principals : Declared) (globals : List Global) (first : ℕ)
    (before methods : List MethodShape) (trees : List MethodTree) → AllByRecursion (GlobalIs program) globals →
    VariablesStand principals program (counted variables_in before) (variables_from first methods) →
    methods_faults principals globals before methods ≡ [] →
    AreMethodsFor principals globals before methods trees → AreMethodsIn program first trees
methods_in program principals globals first before [] trees all stands none are =
    subst (AreMethodsIn program first) (sym are) tt
methods_in program principals globals first before (method ∷ methods) trees all stands none
    (t, ts, same, one, behind) =
    let own : MethodId = record { 0 = first } in
    let s = setting_of principals globals method in
    let others = variables_from (suc first) methods in
    let both = none_in_two (method_faults s (head_after before) method)
    (methods_faults principals globals (before ++ method ∷ []) methods) none in
    subst (AreMethodsIn program first) (sym same) (
      method_in program own s before method t refl all
          (own_variables principals program own (counted variables_in before) method
          (front_stands principals program (counted variables_in before) (method_variables own method) others stands))
          both.0 one,
      methods_in program principals globals (suc first) (before ++ method ∷ []) methods ts all
          (other_variables principals program own before method others stands) both.1 behind,
    )

-- ---- main

not_true : (b : Bool) → not b ≡ true → b ≡ false
not_true false is = refl
not_true true is = absurd (false≢true is)

zero_count : (a : ℕ) → a == 0 ≡ true → a ≡ 0
zero_count a is = search rules

main_at : (program : ProgramTree) (s : Setting) (head : Place) (first : ℕ) (method : MethodShape) (tree : MethodTree) →
    is_main method ≡ true → IsMethodFor s head method tree → slice_get program.methods first ≡ Some tree →
    HasMethod program 0 false (record { 0 = first })
main_at program s head first method tree is one stands =
    let own : MethodId = record { 0 = first } in
    let outer = and_parts (bytes_eq method.name.text (codes "main")) _ is in
    let inner = and_parts (length method.params == 0) (not (has_result method.result)) outer.1 in
    let there = method_there program s head first method tree one stands in
    subst (λ n. HasMethod program n false own) (zero_count (length method.params) inner.0)
    (subst (λ g. HasMethod program (length method.params) g own) (not_true (has_result method.result) inner.1) there)

main_in : (program : ProgramTree) (principals : Declared) (globals : List Global) (first : ℕ)
    (before methods : List MethodShape) (trees : List MethodTree) (main : MethodId) →
    AreMethodsFor principals globals before methods trees → StandsFrom program.methods first trees →
    main_from first methods ≡ Some main → HasMethod program 0 false main
main_in program principals globals first before [] trees main are stands is = absurd cc
main_in program principals globals first before (method ∷ methods) trees main (t, ts, same, one, behind) stands is =
    let own : MethodId = record { 0 = first } in
    let here : StandsFrom program.methods first (t ∷ ts) = subst (StandsFrom program.methods first) same stands in
    let either : Bool → Option MethodId = λ b. if b then Some own else main_from (suc first) methods in
    elim (true_or_false (is_main method)) [
      | inl is_it ↦
          let found : Some own ≡ Some main = sym (ap either is_it) ∙ is in
          let same_id : own ≡ main = cc in
          subst (HasMethod program 0 false) same_id
          (main_at program (setting_of principals globals method) (head_after before) first method t is_it one
          (head_stands program.methods first t ts here))
      | inr is_not ↦
          main_in program principals globals (suc first) (before ++ method ∷ []) methods ts main behind
          (tail_stands program.methods first t ts here) (sym (ap either is_not) ∙ is)
    ]

pub well_numbered : (principals : Declared) (draft : DraftShape) (tree : ProgramTree) →
    IsProgramOf principals draft tree → IsWellNumbered tree
well_numbered principals draft tree is =
    let globals = globals_of draft in
    let all : AllByRecursion (GlobalIs tree) globals =
    both_all (GlobalIs tree) (fields_from 0 draft.fields) (methods_from 0 draft.methods)
    (fields_are tree principals 0 draft.fields tree.fields is.is_tree.fields (from_start tree.fields))
    (methods_are tree principals globals 0 [] draft.methods tree.methods is.is_tree.methods
    (from_start tree.methods)) in
    let parts = none_in_three (flat_map (λ global. global_faults globals global.name) globals)
    (flat_map (λ field. label_faults principals field.label) draft.fields)
    (methods_faults principals globals [] draft.methods) is.no_faults in
    record {
      methods = methods_in tree principals globals 0 [] draft.methods tree.methods all
          (all_stand principals draft tree is) parts.2
          is.is_tree.methods;
      main = main_in tree principals globals 0 [] draft.methods tree.methods tree.main is.is_tree.methods
          (from_start tree.methods) is.is_tree.main;
    }
