-- The values of the statements of a block flow to where these keep them.
use Rattle.std.proofs.Common.{◌≡◌, ◌∙◌, Bool, List, [], ◌∷◌, ◌++◌, length, refl, ap, sym, subst}
use Rattle.std.specs.Prelude.{Option, Some, None}
use Rattle.std.specs.List.{AllByRecursion, flat_map}
use Rattle.js_base.specs.declared.ids.VarId.{VarId}
use Rattle.js_base.specs.declared.ids.MethodId.{MethodId}
use Rattle.principals.specs.ActsFor.{Declared}
use Rattle.label_lattice.specs.declared.label.Label.{Label}
use Rattle.label_lattice.specs.Label.{ConfFlows}
use Rattle.label_lattice.specs.Lattice.{join_of}
use Rattle.jif_tree.specs.Trees.{ExprTree, BlockTree, done, set_local, set_field, set_element, branch, loop, call}
use Rattle.jif_tree.specs.Trees.{give_back, MethodTree}
use Rattle.jif_tree.specs.LabelRules.{VariableLabels, setting_of, variable_label, field_label, expr_label, Holds}
use Rattle.jif_tree.specs.LabelRules.{guarded}
use Rattle.jif_tree.specs.LabelRules.{expr_constraints, argument_flows, call_constraints, labels_after, block_labels}
use Rattle.jif_tree.specs.LabelRules.{labels_after_assignment, declared_labels, method_at, params_of, result_of}
use Rattle.jif_tree.specs.LabelRules.{begin_label}
use Rattle.jif_tree.specs.Labelling.{IsLabelled, IsLabelledIfAny, AreLabelled}
use Rattle.jif_tree.specs.ValueLabels.{IsExprLabelled, AreValuesLabelled}
use Rattle.jif_tree.specs.WellNumbered.{IsExprIn, IsBlockIn, is_some}
use Rattle.jif_tree.proofs.LabelsKept.{Stay, stay_then, assignment_stays, block_stays, assigned_labelled}
use Rattle.need_labels.specs.Labelled.{Labelled, all_labels}
use Rattle.need_labels.specs.Needs.{block_uses, tellings_in, label_of}
use Rattle.msg_cost.specs.Moves.{PlannedShape}
use Rattle.split_rules.proofs.BackedLabels.{all_first, all_second, variable_found}
use Rattle.split_rules.proofs.LabelsKept.{AreFinal, label_there}
use Rattle.split_rules.proofs.SeenLabels.{flows_first, flows_second}
use Rattle.split_rules.proofs.SeenBlocks.{IsToldWell, IsUseWell, guard_same, IsMet, IsKept, AreLabelsKept, AreUsesWell}
use Rattle.split_shades.specs.Flows.{AreResultsLabelled, AreIndexesSeen, ValueFlows, ArgumentsFlow, ResultFlows}
use Rattle.split_shades.specs.Flows.{BlockFlows}
use Rattle.split_shades.proofs.BasisLabels.{flows_self, value_under, basis_of, same_value}
use Rattle.split_shades.proofs.KeptValues.{indexes_seen, value_kept, arguments_flow, result_flows_on, answer_flows}

-- ---- what a statement tells the hosts of fields, under the program label with which it is checked

abbrev TellsUnder : Declared → Labelled → PlannedShape → MethodTree → Label → List ExprTree → Type 0
TellsUnder principals labelled planned tree pc exprs =
    AllByRecursion (IsToldWell labelled planned)
    (flat_map (tellings_in (setting_of principals labelled.program tree) labelled pc) exprs)

first_indexes : (principals : Declared) (labelled : Labelled) (planned : PlannedShape) (tree : MethodTree)
    (method : MethodId) (pc : Label) (value : ExprTree) (others : List ExprTree) →
    IsExprIn labelled.program method value →
    TellsUnder principals labelled planned tree pc (value ∷ others) →
    AreIndexesSeen (basis_of principals labelled) planned pc value
first_indexes principals labelled planned tree method pc value others there told =
    indexes_seen principals labelled planned tree method pc value there
    (all_first (IsToldWell labelled planned) (tellings_in (setting_of principals labelled.program tree) labelled pc
    value) _ told)

other_tellings : (principals : Declared) (labelled : Labelled) (planned : PlannedShape) (tree : MethodTree) (pc : Label)
    (value : ExprTree) (others : List ExprTree) → TellsUnder principals labelled planned tree pc (value ∷ others) →
    TellsUnder principals labelled planned tree pc others
other_tellings principals labelled planned tree pc value others told =
    all_second (IsToldWell labelled planned) (tellings_in (setting_of principals labelled.program tree) labelled pc
    value) _ told

-- ---- guards

branch_guard : (principals : Declared) (labelled : Labelled) (planned : PlannedShape) (tree : MethodTree) (pc : Label)
    (guard : ExprTree) → AreIndexesSeen (basis_of principals labelled) planned pc guard →
    ValueFlows (basis_of principals labelled) planned pc guard
    (guarded (setting_of principals labelled.program tree) pc (all_labels labelled) guard)
branch_guard principals labelled planned tree pc guard indexes =
    let own = expr_label (setting_of principals labelled.program tree) pc (all_labels labelled) guard in
    let P : Label → Type 0 = λ label. ConfFlows label (join_of pc own) in
    record {
      indexes = indexes;
      program = flows_first pc own;
      value_flows = subst P (same_value principals labelled tree pc guard) (flows_second pc own);
    }

loop_guard : (principals : Declared) (labelled : Labelled) (planned : PlannedShape) (tree : MethodTree) (pc : Label)
    (guard : ExprTree) → let inside = guarded (setting_of principals labelled.program tree) pc (all_labels labelled)
    guard in
    AreIndexesSeen (basis_of principals labelled) planned inside guard →
    ValueFlows (basis_of principals labelled) planned inside guard inside
loop_guard principals labelled planned tree pc guard indexes =
    let setting = setting_of principals labelled.program tree in
    let own = expr_label setting pc (all_labels labelled) guard in
    let inside = join_of pc own in
    let P : Label → Type 0 = λ label. ConfFlows label inside in
    record {
      indexes = indexes;
      program = flows_self inside;
      value_flows = subst P (same_value principals labelled tree inside guard)
          (value_under setting (all_labels labelled) pc inside inside (flows_self inside) guard (flows_second pc own));
    }

-- ---- calls

record CallFlows (principals : Declared) (labelled : Labelled) (planned : PlannedShape) (pc : Label)
    (found : Option MethodTree) (arguments : List ExprTree) (into : Option VarId) : Type 0 where
  begins : ConfFlows pc (begin_label found)
  arguments_flow : ArgumentsFlow (basis_of principals labelled) planned pc (params_of found) arguments
  result_flows : ResultFlows (basis_of principals labelled) planned pc (result_of found) into

call_flows : (principals : Declared) (labelled : Labelled) (planned : PlannedShape) (tree : MethodTree) →
    AreResultsLabelled labelled.program → (labels final : VariableLabels) → AreFinal labelled final →
    Stay labels final → Stay (declared_labels labelled.program) labels → (own called : MethodId) (pc : Label)
    (found : Option MethodTree) (arguments : List ExprTree) (into : Option VarId) →
    method_at labelled.program called ≡ found → is_some (result_of found) ≡ is_some into →
    AllByRecursion (IsExprIn labelled.program own) arguments → AllByRecursion (IsExprLabelled labels) arguments →
    AllByRecursion (IsLabelled labels) (params_of found) → IsLabelledIfAny labels into →
    let setting = setting_of principals labelled.program tree in
    AllByRecursion (Holds principals) (call_constraints setting pc labels found arguments into) →
    TellsUnder principals labelled planned tree pc arguments →
    CallFlows principals labelled planned pc found arguments into
call_flows principals labelled planned tree results labels final are stay since own called pc found arguments into is
    both there values has into_has holds told =
    let setting = setting_of principals labelled.program tree in
    let params = params_of found in
    let flows = all_first (Holds principals) (argument_flows setting pc labels arguments params) _ holds.1 in
    let kept = all_second (Holds principals) (argument_flows setting pc labels arguments params) _ holds.1 in
    record {
      begins = holds.0.0;
      arguments_flow = arguments_flow principals labelled planned tree labels final are stay own pc params arguments
          there values has flows told;
      result_flows = result_flows_on principals labelled planned tree labels final are stay since pc (result_of found)
          into both (declared found is) into_has kept;
    }
  where
    declared : (it : Option MethodTree) → method_at labelled.program called ≡ it →
        IsLabelledIfAny (declared_labels labelled.program) (result_of it)
    declared None it_is = tt
    declared (Some it) it_is = results called.0 it it_is

-- ---- blocks

pub block_flows : (principals : Declared) (labelled : Labelled) (planned : PlannedShape) (tree : MethodTree) →
    AreResultsLabelled labelled.program → (method : MethodId) (gives : Bool) → is_some tree.result ≡ gives →
    (final : VariableLabels) → AreFinal labelled final → (pc : Label) (labels : VariableLabels) →
    length labels ≡ length labelled.program.vars → Stay (declared_labels labelled.program) labels →
    (block : BlockTree) → let setting = setting_of principals labelled.program tree in
    Stay (labels_after setting pc labels block) final → IsBlockIn labelled.program method gives block →
    AreLabelled setting pc labels block → AreValuesLabelled setting pc labels block →
    AllByRecursion (IsMet principals) (block_labels setting pc labels block) →
    AreLabelsKept labelled (block_labels setting pc labels block) →
    AreUsesWell labelled planned principals (block_uses labelled setting block) →
    BlockFlows (basis_of principals labelled) planned setting pc block
block_flows principals labelled planned tree results method gives same_gives final are pc labels many since done stay
    there has values met kept uses = tt
block_flows principals labelled planned tree results method gives same_gives final are pc labels many since
    (set_local heading x value rest) stay there has values met kept uses =
    let setting = setting_of principals labelled.program tree in
    let from = expr_label setting pc labels value in
    let after = labels_after_assignment labels x (join_of from pc) in
    let behind = labels_after setting pc after rest in
    let assigned = assignment_stays labels x (join_of from pc) in
    let later = stay_then after behind final (block_stays setting pc after rest) stay in
    let P : Label → Type 0 = λ it. TellsUnder principals labelled planned tree it (value ∷ []) in
    let told = subst P kept.0 uses.0.tellings in
    let flows = (all_second (Holds principals) (expr_constraints setting pc labels value) _ met.0).0 in
    let variable = variable_found labelled method x labels many there.0 in
    let own = assigned_labelled labels x (join_of from pc) variable.0 variable.1 in (
      value_kept principals labelled planned tree labels final are (stay_then labels after final assigned later) pc
          value values.0 (first_indexes principals labelled planned tree method pc value [] there.1 told) from
          (variable_label after x) (label_of labelled x) (flows_self from) flows
          (sym (label_there labelled after final are later x own)),
      block_flows principals labelled planned tree results method gives same_gives final are pc after (assigned.many ∙
          many) (stay_then (declared_labels labelled.program) labels after since assigned) rest stay there.2 has
          values.1 met.1 kept.1 uses.1,
    )
block_flows principals labelled planned tree results method gives same_gives final are pc labels many since
    (set_field heading field value rest) stay there has values met kept uses =
    let setting = setting_of principals labelled.program tree in
    let from = expr_label setting pc labels value in
    let end = labels_after setting pc labels rest in
    let stays = stay_then labels end final (block_stays setting pc labels rest) stay in
    let P : Label → Type 0 = λ it. TellsUnder principals labelled planned tree it (value ∷ []) in
    let told = subst P kept.0 uses.0.tellings in
    let flows = (all_second (Holds principals) (expr_constraints setting pc labels value) _ met.0).0 in
    let to = field_label labelled.program field in (
      value_kept principals labelled planned tree labels final are stays pc value values.0
          (first_indexes principals labelled planned tree method pc value [] there.1 told) from to to (flows_self from)
          flows refl,
      block_flows principals labelled planned tree results method gives same_gives final are pc labels many since rest
          stay there.2 has values.1 met.1 kept.1 uses.1,
    )
block_flows principals labelled planned tree results method gives same_gives final are pc labels many since
    (set_element heading field index value rest) stay there has values met kept uses =
    let setting = setting_of principals labelled.program tree in
    let first = expr_label setting pc labels index in
    let second = expr_label setting pc labels value in
    let end = labels_after setting pc labels rest in
    let stays = stay_then labels end final (block_stays setting pc labels rest) stay in
    let P : Label → Type 0 = λ it. TellsUnder principals labelled planned tree it (index ∷ value ∷ []) in
    let told = subst P kept.0 uses.0.tellings in
    let one = expr_constraints setting pc labels index in
    let two = expr_constraints setting pc labels value in
    let flows = (all_second (Holds principals) (one ++ two) _ met.0).0 in
    let from = join_of first second in
    let to = field_label labelled.program field in (
      value_kept principals labelled planned tree labels final are stays pc index values.0
          (first_indexes principals labelled planned tree method pc index (value ∷ []) there.1 told) from to to
          (flows_first first second) flows refl,
      value_kept principals labelled planned tree labels final are stays pc value values.1
          (first_indexes principals labelled planned tree method pc value [] there.2
          (other_tellings principals labelled planned tree pc index (value ∷ []) told)) from to to
          (flows_second first second) flows refl,
      block_flows principals labelled planned tree results method gives same_gives final are pc labels many since rest
          stay there.3 has values.2 met.1 kept.1 uses.1,
    )
block_flows principals labelled planned tree results method gives same_gives final are pc labels many since
    (branch heading guard first second rest) stay there has values met kept uses =
    let setting = setting_of principals labelled.program tree in
    let declared = declared_labels labelled.program in
    let inside = guarded setting pc labels guard in
    let between = labels_after setting inside labels first in
    let behind = labels_after setting inside between second in
    let end = labels_after setting pc behind rest in
    let first_stays = block_stays setting inside labels first in
    let second_stays = block_stays setting inside between second in
    let rest_stays = stay_then behind end final (block_stays setting pc behind rest) stay in
    let from_second = stay_then between behind final second_stays rest_stays in
    let from_first = stay_then labels between final first_stays from_second in
    let since_second = stay_then declared labels between since first_stays in
    let labels_one = block_labels setting inside labels first in
    let labels_two = block_labels setting inside between second in
    let uses_one = block_uses labelled setting first in
    let uses_two = block_uses labelled setting second in
    let both_met = all_first (IsMet principals) (labels_one ++ labels_two) _ met.1 in
    let both_kept = all_first (IsKept labelled) (labels_one ++ labels_two) _ kept.1 in
    let both_uses = all_first (IsUseWell labelled planned principals) (uses_one ++ uses_two) _ uses.1 in
    let P : Label → Type 0 = λ it. TellsUnder principals labelled planned tree it (guard ∷ []) in
    let told = subst P kept.0 uses.0.tellings in
    let same = ap (λ label. join_of pc label) (guard_same labelled setting pc labels final are from_first guard
    values.0) in
    let Q : BlockTree → Label → Type 0 = λ block it.
    BlockFlows (basis_of principals labelled) planned setting it block in (
      branch_guard principals labelled planned tree pc guard
          (first_indexes principals labelled planned tree method pc guard [] there.0 told),
      subst (Q first) same (block_flows principals labelled planned tree results method gives same_gives final are
          inside labels many since first from_second there.1 has.0 values.1 (all_first (IsMet principals) labels_one
          labels_two both_met) (all_first (IsKept labelled) labels_one labels_two both_kept)
          (all_first (IsUseWell labelled planned principals) uses_one uses_two both_uses)),
      subst (Q second) same (block_flows principals labelled planned tree results method gives same_gives final are
          inside between (first_stays.many ∙ many) since_second second rest_stays there.2 has.1 values.2
          (all_second (IsMet principals) labels_one labels_two both_met)
          (all_second (IsKept labelled) labels_one labels_two both_kept)
          (all_second (IsUseWell labelled planned principals) uses_one uses_two both_uses)),
      block_flows principals labelled planned tree results method gives same_gives final are pc behind
          (second_stays.many ∙ first_stays.many ∙ many) (stay_then declared between behind since_second second_stays)
          rest stay there.3 has.2 values.3 (all_second (IsMet principals) (labels_one ++ labels_two) _ met.1)
          (all_second (IsKept labelled) (labels_one ++ labels_two) _ kept.1)
          (all_second (IsUseWell labelled planned principals) (uses_one ++ uses_two) _ uses.1),
    )
block_flows principals labelled planned tree results method gives same_gives final are pc labels many since
    (loop heading guard inner rest) stay there has values met kept uses =
    let setting = setting_of principals labelled.program tree in
    let declared = declared_labels labelled.program in
    let inside = guarded setting pc labels guard in
    let behind = labels_after setting inside labels inner in
    let end = labels_after setting pc behind rest in
    let inner_stays = block_stays setting inside labels inner in
    let rest_stays = stay_then behind end final (block_stays setting pc behind rest) stay in
    let from_inner = stay_then labels behind final inner_stays rest_stays in
    let labels_one = block_labels setting inside labels inner in
    let uses_one = block_uses labelled setting inner in
    let P : Label → Type 0 = λ it. TellsUnder principals labelled planned tree it (guard ∷ []) in
    let told = subst P kept.0 uses.0.tellings in
    let same = ap (λ label. join_of pc label) (guard_same labelled setting pc labels final are from_inner guard
    values.0) in
    let Q : Label → Type 0 = λ it. AreIndexesSeen (basis_of principals labelled) planned it guard in
    let R : Label → Type 0 = λ it. BlockFlows (basis_of principals labelled) planned setting it inner in (
      flows_first pc (expr_label setting pc (all_labels labelled) guard),
      loop_guard principals labelled planned tree pc guard
          (subst Q same (first_indexes principals labelled planned tree method inside guard [] there.0 told)),
      subst R same (block_flows principals labelled planned tree results method gives same_gives final are inside labels
          many since inner rest_stays there.1 has.0 values.1 (all_first (IsMet principals) labels_one _ met.1)
          (all_first (IsKept labelled) labels_one _ kept.1)
          (all_first (IsUseWell labelled planned principals) uses_one _ uses.1)),
      block_flows principals labelled planned tree results method gives same_gives final are pc behind
          (inner_stays.many ∙ many) (stay_then declared labels behind since inner_stays) rest stay there.2 has.1
          values.2 (all_second (IsMet principals) labels_one _ met.1) (all_second (IsKept labelled) labels_one _ kept.1)
          (all_second (IsUseWell labelled planned principals) uses_one _ uses.1),
    )
block_flows principals labelled planned tree results method gives same_gives final are pc labels many since
    (call heading site called arguments into rest) stay there has values met kept uses =
    let setting = setting_of principals labelled.program tree in
    let end = labels_after setting pc labels rest in
    let stays = stay_then labels end final (block_stays setting pc labels rest) stay in
    let P : Label → Type 0 = λ it. TellsUnder principals labelled planned tree it arguments in
    let told = subst P kept.0 uses.0.tellings in
    let asked = all_second (Holds principals) (flat_map (expr_constraints setting pc labels) arguments) _ met.0 in
    let both = ap (λ found. is_some (result_of found)) there.0.1 ∙ there.0.3 in
    let flows = call_flows principals labelled planned tree results labels final are stays since method called pc
    (method_at labelled.program called) arguments into refl both there.1 values.0 has.0 has.1 asked told in (
      flows.begins,
      flows.arguments_flow,
      flows.result_flows,
      block_flows principals labelled planned tree results method gives same_gives final are pc labels many since rest
          stay there.3 has.2 values.1 met.1 kept.1 uses.1,
    )
block_flows principals labelled planned tree results method gives same_gives final are pc labels many since
    (give_back heading value rest) stay there has values met kept uses =
    let setting = setting_of principals labelled.program tree in
    let end = labels_after setting pc labels rest in
    let stays = stay_then labels end final (block_stays setting pc labels rest) stay in
    let P : Label → Type 0 = λ it. TellsUnder principals labelled planned tree it (value ∷ []) in
    let told = subst P kept.0 uses.0.tellings in
    let holds = all_second (Holds principals) (expr_constraints setting pc labels value) _ met.0 in (
      answer_flows principals labelled planned tree labels final are stays pc value values.0
          (first_indexes principals labelled planned tree method pc value [] there.1 told) tree.result
          (same_gives ∙ there.0) has.0 holds,
      block_flows principals labelled planned tree results method gives same_gives final are pc labels many since rest
          stay there.2 has.1 values.1 met.1 kept.1 uses.1,
    )
