-- Whoever hosts a call of a method with a result may see the label of that result, as the check of a returned result
-- asks.
use Rattle.std.proofs.Common.{◌≡◌, ◌∙◌, ℕ, zero, suc, inl, inr, Bool, List, [], ◌∷◌, ◌++◌, map, length, refl, ap, sym}
use Rattle.std.proofs.Common.{subst, arith, true≢false}
use Rattle.std.specs.Prelude.{Option, Some, None, IsSomeAnd, slice_get, unwrap_or}
use Rattle.std.specs.List.{AllByRecursion, flat_map, zip}
use Rattle.std.specs.Option.{option_map}
use Rattle.std.proofs.lemmas.Option.{slice_get-map, slice_get_within, slice_get_cases}
use Rattle.js_base.specs.declared.ids.HostId.{HostId}
use Rattle.js_base.specs.declared.ids.VarId.{VarId}
use Rattle.js_base.specs.declared.ids.MethodId.{MethodId}
use Rattle.label_lattice.specs.declared.label.Label.{Label}
use Rattle.label_lattice.specs.Label.{ConfFlows, IsTrustedBy}
use Rattle.label_lattice.specs.Lattice.{empty_label}
use Rattle.host_decl.specs.Hosts as rows
use Rattle.jif_tree.specs.Trees.{BlockTree, done, set_local, set_field, set_element, branch, loop, call, give_back}
use Rattle.jif_tree.specs.Trees.{MethodTree, ProgramTree}
use Rattle.jif_tree.specs.LabelRules.{MethodSetting, setting_of, part_labels, method_at, result_of, begin_label}
use Rattle.jif_tree.specs.WellNumbered.{HasVariable, HasOptionalVariable, IsBlockIn, AreMethodsIn, is_some}
use Rattle.host_code.specs.Code.{CodeShape, CodeVariableShape, variable_at}
use Rattle.entry_check.specs.Checks.{MaySee, label_at, label_of_host}
use Rattle.need_labels.specs.Labelled.{Labelled, pc_of, all_labels}
use Rattle.need_labels.specs.Needs.{StatementUse, IsNeed, block_uses, method_uses, statement_uses}
use Rattle.need_labels.specs.Needs.{label_of, labels_of, kept_result}
use Rattle.need_labels.specs.Plan.{first_host, statement_host}
use Rattle.need_labels.proofs.Ordered.{use_numbered}
use Rattle.msg_cost.specs.Moves.{PlannedShape}
use Rattle.host_core.specs.Turn.{MayReturn}
use Rattle.split_rules.specs.Placed.{PlacedProgram, planned_from}
use Rattle.split_rules.specs.Allowed.{IsAllowed}
use Rattle.split_rules.specs.Emissions.{Emission}
use Rattle.split_rules.specs.Held.{HoldsStatement, IsWellHeld}
use Rattle.split_rules.specs.SplitCode.{code_labels, code_variable, code_of_emissions, label_of_emission, label_place}
use Rattle.split_rules.specs.SplitCode.{split_code}
use Rattle.split_rules.specs.Splittable.{IsSplittable}
use Rattle.split_rules.specs.Walk.{program_emissions}
use Rattle.split_rules.proofs.Places.{same_host}
use Rattle.split_rules.proofs.CodeLabels.{label_left, label_right, label_placed}
use Rattle.split_rules.proofs.CodeLabels as labels
use Rattle.split_rules.proofs.WalkedPrograms.{method_there}
use Rattle.split_rules.proofs.AllowedTyping.{each_there, zipped_there}
use Rattle.split_rules.proofs.ToldEmissions.{Sees}
use Rattle.split_rules.proofs.SeenLabels.{folded_sees}
use Rattle.split_rules.proofs.SeenPrograms.{zip_at}
use Rattle.split_rules.proofs.ToldCode.{sees_in_code}
use Rattle.typed_steps.proofs.Basics.{all_left, all_right}
use Rattle.typed_steps.specs.Readers.{SeeResults}

-- ---- what statements tell

-- the host of a statement may see what the statement tells
abbrev IsSeenUse : PlannedShape → StatementUse → Type 0
IsSeenUse planned one = Sees planned (statement_host planned.plan one.id) one.used

use_seen : (placed : PlacedProgram) →
    IsAllowed placed → IsWellHeld placed → (place : ℕ) (one : StatementUse) →
    slice_get (statement_uses placed.hosts.principals placed.labelled) place ≡ Some one →
    IsSeenUse (planned_from placed) one
use_seen placed allowed held place one is =
    let principals = placed.hosts.principals in
    let uses = statement_uses principals placed.labelled in
    let own : StatementUse → Label = λ it. it.used in
    let number : one.id.0 ≡ place = use_numbered principals placed.labelled place one allowed.statements is in
    let word = zipped_there (λ it need. IsNeed principals it.backing need) uses placed.needs.need allowed.needs_of.need
    place
    one is in
    let used : slice_get placed.needs.used place ≡ Some one.used =
    ap (λ list. slice_get list place) allowed.needs_of.used ∙ slice_get-map own uses place ∙ ap (option_map own) is in
    let holds = zipped_there (HoldsStatement placed.hosts) (zip placed.needs.used placed.needs.need)
    placed.plan.statements held.statements place
    (one.used, word.0) (zip_at placed.needs.used placed.needs.need place one.used word.0 used word.1) in
    let host_is : holds.0 ≡ statement_host placed.plan one.id =
    sym (ap (λ found. unwrap_or found first_host) (ap (slice_get placed.plan.statements) number ∙ holds.1)) in
    let P : HostId → Type 0 = λ host. Sees (planned_from placed) host one.used in
    subst P host_is (seen word.0 (slice_get placed.hosts.hosts holds.0.0) holds.2)
  where
    seen : (need : ℕ) (found : Option rows.HostShape) →
        IsSomeAnd found (λ row. ConfFlows one.used row.label × IsTrustedBy row.label need) →
        IsSomeAnd found (λ row. ConfFlows one.used row.label)
    seen need None never = absurd never
    seen need (Some row) both = both.0

-- a result that is there is kept, so its label is among what the call tells
kept_seen : (labelled : Labelled) (planned : PlannedShape) (host : HostId) (called : Option MethodTree)
    (into : Option VarId) (result : VarId) → result_of called ≡ Some result →
    is_some (result_of called) ≡ is_some into →
    AllByRecursion (Sees planned host) (kept_result labelled called into) → Sees planned host (label_of labelled result)
kept_seen labelled planned host called None result is keeps seen =
    absurd (true≢false (sym (ap is_some is) ∙ keeps))
kept_seen labelled planned host called (Some into) result is keeps seen =
    let P : Option VarId → Type 0 = λ found. AllByRecursion (Sees planned host) (labels_of labelled found) in
    let own : P (Some result) = subst P is seen in
    own.0

-- ---- variables of the code

-- a variable may be returned to a host that may see its label
variable_returned : (placed : PlacedProgram) (emissions : List Emission) (host : HostId) (method : MethodId)
    (x : VarId) →
    length placed.labelled.var_labels ≡ length placed.labelled.program.vars →
    HasVariable placed.labelled.program method x →
    let planned = planned_from placed in
    let code = code_of_emissions placed.labelled placed.hosts planned emissions in
    Sees planned host (label_of placed.labelled x) → MayReturn code (variable_at code x) host
variable_returned placed emissions host method x many there sees =
    let within = slice_get_within placed.labelled.program.vars x.0 there.0 there.1 in
    elim ((slice_get_cases placed.labelled.var_labels x.0).1) [
      | inl found ↦ with_label found.0 found.2
      | inr past ↦ absurd (let over = past.0 in omega arith)
    ]
  where
    planned : PlannedShape
    planned = planned_from placed

    code : CodeShape
    code = code_of_emissions placed.labelled placed.hosts (planned_from placed) emissions

    needed : List Label
    needed = code_labels placed.labelled emissions

    fields : List Label
    fields = map (λ field. field.label) placed.labelled.program.fields

    with_label : (label : Label) → slice_get placed.labelled.var_labels x.0 ≡ Some label →
        MayReturn code (variable_at code x) host
    with_label label is =
        let make = code_variable placed.labelled.program needed in
        let in_code : variable_at code x ≡ Some (make (there.0, label)) =
        slice_get-map make (zip placed.labelled.program.vars placed.labelled.var_labels) x.0
        ∙ ap (option_map make) (zip_at placed.labelled.program.vars placed.labelled.var_labels x.0 there.0 label
        there.1 is) in
        let given = flat_map label_of_emission emissions in
        let label_is : label_at code (label_place 0 label needed) ≡ Some label =
        label_placed label (fields ++ placed.labelled.var_labels ++ given)
        (label_left label (fields ++ placed.labelled.var_labels) given
        (label_right label fields placed.labelled.var_labels (labels.label_at placed.labelled.var_labels x.0 label
        is))) in
        let O : Label → Type 0 = λ it. Sees planned host it in
        let P : Option Label → Type 0 = λ it. MaySee it (label_of_host code host) in
        let Q : Option CodeVariableShape → Type 0 = λ it. MayReturn code it host in
        let label_in : Option (Option Label) → Label = λ it. unwrap_or (unwrap_or it None) empty_label in
        let same : label_of placed.labelled x ≡ label =
        ap label_in (slice_get-map Some placed.labelled.var_labels x.0 ∙ ap (option_map Some) is) in
        let own : Sees planned host label = subst O same sees in
        subst Q (sym in_code) (subst P (sym label_is) (sees_in_code placed emissions host label own))

-- ---- blocks

-- the result of a method may be returned to each host that may see its label
abbrev AreResultsReturned : Labelled → CodeShape → PlannedShape → Type 0
AreResultsReturned labelled code planned = (called : MethodId) (result : VarId) →
    result_of (method_at labelled.program called) ≡ Some result → (host : HostId) →
    Sees planned host (label_of labelled result) → MayReturn code (variable_at code result) host

block_results : (placed : PlacedProgram) (code : CodeShape) →
    let planned = planned_from placed in
    AreResultsReturned placed.labelled code planned → (setting : MethodSetting) (method : MethodId) (gives : Bool)
    (block : BlockTree) → IsBlockIn placed.labelled.program method gives block →
    AllByRecursion (IsSeenUse planned) (block_uses placed.labelled setting block) → SeeResults code planned block
block_results placed code returned setting method gives done there seen = tt
block_results placed code returned setting method gives (set_local heading x value rest) there seen =
    block_results placed code returned setting method gives rest there.2 seen.1
block_results placed code returned setting method gives (set_field heading field value rest) there
    seen = block_results placed code returned setting method gives rest there.2 seen.1
block_results placed code returned setting method gives (set_element heading field index value rest)
    there seen = block_results placed code returned setting method gives rest there.3 seen.1
block_results placed code returned setting method gives (branch heading guard first second rest)
    there seen =
    let P = IsSeenUse (planned_from placed) in
    let one = block_uses placed.labelled setting first in
    let two = block_uses placed.labelled setting second in
    let behind = block_uses placed.labelled setting rest in
    let inside = all_left P (one ++ two) behind seen.1 in (
      block_results placed code returned setting method gives first there.1
          (all_left P one two inside),
      block_results placed code returned setting method gives second there.2
          (all_right P one two inside),
      block_results placed code returned setting method gives rest there.3
          (all_right P (one ++ two) behind seen.1),
    )
block_results placed code returned setting method gives (loop heading guard body rest) there seen =
    let P = IsSeenUse (planned_from placed) in
    let inside = block_uses placed.labelled setting body in
    let behind = block_uses placed.labelled setting rest in (
      block_results placed code returned setting method gives body there.1
          (all_left P inside behind seen.1),
      block_results placed code returned setting method gives rest there.2
          (all_right P inside behind seen.1),
    )
block_results placed code returned setting method gives
    (call heading site called arguments into rest) there seen =
    let planned = planned_from placed in
    let found = method_at placed.labelled.program called in
    let on = statement_host placed.plan heading.id in
    let pc = pc_of placed.labelled heading.id in
    let parts = flat_map (part_labels setting pc (all_labels placed.labelled)) arguments in
    let told = begin_label found ∷ kept_result placed.labelled found into in
    let parted = (folded_sees planned on pc (parts ++ told) seen.0).1 in
    let kept = (all_right (Sees planned on) parts told parted).1 in
    let is_kept : is_some (result_of found) ≡ is_some into =
    ap (λ it. is_some (result_of it)) there.0.1 ∙ there.0.3 in (
      λ result is host same.
          let P : HostId → Type 0 = λ it. MayReturn code (variable_at code result) it in
          subst P (sym (same_host host on same))
          (returned called result is on (kept_seen placed.labelled planned on found into result is is_kept kept)),
      block_results placed code returned setting method gives rest there.3 seen.1,
    )
block_results placed code returned setting method gives (give_back heading value rest) there seen =
    block_results placed code returned setting method gives rest there.2 seen.1

-- ---- programs

-- the result of a method is a variable of the program
result_there : (program : ProgramTree) → AreMethodsIn program 0 program.methods → (called : MethodId)
    (result : VarId) (found : Option MethodTree) → method_at program called ≡ found → result_of found ≡ Some result →
    HasVariable program called result
result_there program numbered called result None found_is is = absurd (cc)
result_there program numbered called result (Some tree) found_is is =
    let own = method_there program program.methods 0 numbered called.0 called.0 tree (omega arith) found_is in
    let P : Option VarId → Type 0 = HasOptionalVariable program called in
    subst P is own.result

results_returned : (placed : PlacedProgram) → IsSplittable placed →
    AreResultsReturned placed.labelled (split_code placed) (planned_from placed)
results_returned placed splittable called result is host sees =
    let planned = planned_from placed in
    variable_returned placed (program_emissions placed) host called result
    splittable.var_labels
    (result_there placed.labelled.program splittable.numbered.methods called result
    (method_at placed.labelled.program called) refl is)
    sees

methods_results : (placed : PlacedProgram) (code : CodeShape) →
    let planned = planned_from placed in
    AreResultsReturned placed.labelled code planned → (first : ℕ) (methods : List MethodTree) →
    AreMethodsIn placed.labelled.program first methods →
    AllByRecursion (IsSeenUse planned) (flat_map (method_uses placed.hosts.principals placed.labelled) methods) →
    (place : ℕ)
    (tree : MethodTree) → slice_get methods place ≡ Some tree → SeeResults code planned tree.body
methods_results placed code returned first [] numbered seen place tree is = absurd (cc)
methods_results placed code returned first (method ∷ methods) numbered seen zero tree is =
    let planned = planned_from placed in
    let own = method_uses placed.hosts.principals placed.labelled method in
    let others = flat_map (method_uses placed.hosts.principals placed.labelled) methods in
    let same : method ≡ tree = cc in
    subst (λ (it : MethodTree). SeeResults code planned it.body) same
    (block_results placed code returned (setting_of placed.hosts.principals placed.labelled.program method)
    (record { 0 = first }) (is_some method.result) method.body numbered.0.body
    (all_left (IsSeenUse planned) own others seen).1)
methods_results placed code returned first (method ∷ methods) numbered seen (suc place) tree is =
    let own = method_uses placed.hosts.principals placed.labelled method in
    let others = flat_map (method_uses placed.hosts.principals placed.labelled) methods in
    methods_results placed code returned (suc first) methods numbered.1
    (all_right (IsSeenUse (planned_from placed)) own others seen) place tree is

-- in each method the host of a call may see the label of the result that it gets
pub results_seen : (placed : PlacedProgram) → IsSplittable placed → IsAllowed placed → IsWellHeld placed →
    (place : ℕ) (tree : MethodTree) → slice_get placed.labelled.program.methods place ≡ Some tree →
    SeeResults (split_code placed) (planned_from placed) tree.body
results_seen placed splittable allowed held =
    let planned = planned_from placed in
    methods_results placed (split_code placed)
    (results_returned placed splittable) 0 placed.labelled.program.methods splittable.numbered.methods
    (each_there (IsSeenUse planned) (statement_uses placed.hosts.principals placed.labelled)
    (use_seen placed allowed held))
