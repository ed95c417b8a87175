-- Parameters and results are declared with a label.
use Rattle.std.proofs.Common.{◌≡◌, ◌∙◌, ℕ, zero, suc, ◌+◌, if◌then◌else◌, List, [], ◌∷◌, ◌++◌, map, length, Option}
use Rattle.std.proofs.Common.{Some, None}
use Rattle.std.proofs.Common.{slice_get, refl, ap, sym, subst, arith}
use Rattle.std.specs.List.{AllByRecursion}
use Rattle.std.specs.Option.{option_map}
use Rattle.std.proofs.lemmas.Option.{slice_get-map}
use Rattle.js_base.specs.declared.ids.MethodId.{MethodId}
use Rattle.principals.specs.ActsFor.{Declared}
use Rattle.label_lattice.specs.declared.label.Label.{Label}
use Rattle.jif_tree.specs.LabelRules.{declared_labels}
use Rattle.jif_tree.specs.Labelling.{IsLabelled, IsLabelledIfAny}
use Rattle.jif_tree.specs.Trees.{VarTree, MethodTree, ProgramTree}
use Rattle.jif_grammar.specs.DraftShapes.{LabelShape, ParamShape, MethodShape, DraftShape}
use Rattle.jif_resolve.specs.AddedVariables.{param_variable, local_variable}
use Rattle.jif_resolve.specs.Counts.{locals_in}
use Rattle.jif_resolve.specs.Faults.{setting_of}
use Rattle.jif_resolve.specs.Labels.{IsOptionalLabelFor}
use Rattle.jif_resolve.specs.Meanings.{Global, has_result, globals_of}
use Rattle.jif_resolve.specs.Places.{Setting, head_after, counted, variables_in}
use Rattle.jif_resolve.specs.Variables.{VariableShape, variables_from, method_variables, result_variables, param_ids}
use Rattle.jif_resolve.specs.Resolved.{IsMethodFor, AreMethodsFor}
use Rattle.jif_resolve.specs.Verdicts.{IsProgramOf}
use Rattle.jif_resolve.proofs.StandingVariables.{VariablesStand, all_stand, front_stands, back_stands, front_long}
use Rattle.jif_resolve.proofs.StandingVariables.{other_variables}

-- the parameters and the result of the method
abbrev pub IsHeadLabelled : ProgramTree → MethodTree → Type 0
IsHeadLabelled program method =
    AllByRecursion (IsLabelled (declared_labels program)) method.params
    × IsLabelledIfAny (declared_labels program) method.result

-- a variable that is written with a label, before others
written_labelled : (principals : Declared) (program : ProgramTree) (first : ℕ) (v : VariableShape)
    (others : List VariableShape) (written : LabelShape) → v.label ≡ Some written →
    VariablesStand principals program first (v ∷ others) → IsLabelled (declared_labels program) (record { 0 = first })
written_labelled principals program first v others written has stands =
    let found = stands 0 v refl in
    let tree : VarTree = found.0 in
    let of : IsOptionalLabelFor principals (Some written) tree.label =
    subst (λ w. IsOptionalLabelFor principals w tree.label) has found.2.label in
    let there : slice_get program.vars first ≡ Some tree =
    (let same : first ≡ first + 0 = omega arith in ap (slice_get program.vars) same) ∙ found.1 in
    let own : VarTree → Option Label = λ variable. variable.label in
    (of.0, slice_get-map own program.vars first ∙ ap (option_map own) there ∙ ap Some of.1)

others_stand : (principals : Declared) (program : ProgramTree) (first : ℕ) (v : VariableShape)
    (others : List VariableShape) → VariablesStand principals program first (v ∷ others) →
    VariablesStand principals program (suc first) others
others_stand principals program first v others stands =
    let same : first + length (v ∷ []) ≡ suc first = omega arith in
    subst (λ n. VariablesStand principals program n others) same
    (back_stands principals program first (v ∷ []) others stands)

params_labelled : (principals : Declared) (program : ProgramTree) (own : MethodId) (first : ℕ)
    (params : List ParamShape) → VariablesStand principals program first (map (param_variable own) params) →
    AllByRecursion (IsLabelled (declared_labels program)) (param_ids first params)
params_labelled principals program own first [] stands = tt
params_labelled principals program own first (param ∷ params) stands =
    let v = param_variable own param in
    let others = map (param_variable own) params in (
      written_labelled principals program first v others param.label refl stands,
      params_labelled principals program own (suc first) params
          (others_stand principals program first v others stands),
    )

result_labelled : (principals : Declared) (program : ProgramTree) (own : MethodId) (first : ℕ)
    (result : Option LabelShape) → VariablesStand principals program first (result_variables own result) →
    IsLabelledIfAny (declared_labels program) (if has_result result then Some (record { 0 = first }) else None)
result_labelled principals program own first None stands = tt
result_labelled principals program own first (Some written) stands =
    written_labelled principals program first _ [] written refl stands

head_labelled : (principals : Declared) (program : ProgramTree) (own : MethodId) (s : Setting)
    (before : List MethodShape) (method : MethodShape) (tree : MethodTree) →
    VariablesStand principals program (counted variables_in before) (method_variables own method) →
    IsMethodFor s (head_after before) method tree → IsHeadLabelled program tree
head_labelled principals program own s before method tree stands is =
    let first = counted variables_in before in
    let params = map (param_variable own) method.params in
    let locals = map (local_variable own) (locals_in method.body) in
    let results = result_variables own method.result in
    let long : length (params ++ locals) ≡ length method.params + length (locals_in method.body) =
    front_long own method in
    let same : first + length (params ++ locals) ≡ first + length method.params + length (locals_in method.body) =
    omega arith in (
      subst (AllByRecursion (IsLabelled (declared_labels program))) (sym is.params)
          (params_labelled principals program own first method.params
          (front_stands principals program first params locals
          (front_stands principals program first (params ++ locals) results stands))),
      subst (IsLabelledIfAny (declared_labels program)) (sym is.result)
          (result_labelled principals program own (first + length method.params + length (locals_in method.body))
          method.result
          (subst (λ n. VariablesStand principals program n results) same
          (back_stands principals program first (params ++ locals) results stands))),
    )

heads_from : (principals : Declared) (program : ProgramTree) (globals : List Global) (number : ℕ)
    (before methods : List MethodShape) (trees : List MethodTree) →
    VariablesStand principals program (counted variables_in before) (variables_from number methods) →
    AreMethodsFor principals globals before methods trees → AllByRecursion (IsHeadLabelled program) trees
heads_from principals program globals number before [] trees stands none =
    subst (AllByRecursion (IsHeadLabelled program)) (sym none) tt
heads_from principals program globals number before (method ∷ methods) trees stands (first, others, same, one, behind) =
    let own : MethodId = record { 0 = number } in
    let rest = variables_from (suc number) methods in
    subst (AllByRecursion (IsHeadLabelled program)) (sym same) (
      head_labelled principals program own (setting_of principals globals method) before method first
          (front_stands principals program (counted variables_in before) (method_variables own method) rest stands) one,
      heads_from principals program globals (suc number) (before ++ method ∷ []) methods others
          (other_variables principals program own before method rest stands) behind,
    )

pub heads_labelled : (principals : Declared) (draft : DraftShape) (tree : ProgramTree) →
    IsProgramOf principals draft tree → AllByRecursion (IsHeadLabelled tree) tree.methods
heads_labelled principals draft tree is =
    heads_from principals tree (globals_of draft) 0 [] draft.methods tree.methods (all_stand principals draft tree is)
    is.is_tree.methods

result_there : (program : ProgramTree) (methods : List MethodTree) → AllByRecursion (IsHeadLabelled program) methods →
    (place : ℕ) (method : MethodTree) → slice_get methods place ≡ Some method →
    IsLabelledIfAny (declared_labels program) method.result
result_there program [] heads place method there = absurd (cc)
result_there program (first ∷ methods) heads zero method there =
    let same : first ≡ method = cc in
    subst (λ one. IsLabelledIfAny (declared_labels program) one.result) same heads.0.1
result_there program (first ∷ methods) heads (suc place) method there =
    result_there program methods heads.1 place method there

-- each method that has a result declares it with a label
pub results_labelled : (principals : Declared) (draft : DraftShape) (tree : ProgramTree) →
    IsProgramOf principals draft tree → (place : ℕ) (method : MethodTree) →
    slice_get tree.methods place ≡ Some method → IsLabelledIfAny (declared_labels tree) method.result
results_labelled principals draft tree is place method there =
    result_there tree tree.methods (heads_labelled principals draft tree is) place method there
