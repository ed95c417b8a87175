-- A value of a statement flows to where the statement keeps it, with labels as they are behind the whole program.
use Rattle.std.proofs.Common.{◌≡◌, ◌∙◌, true, true≢false, List, [], ◌∷◌, sym, subst}
use Rattle.std.specs.Prelude.{Option, Some, None}
use Rattle.std.specs.List.{AllByRecursion, flat_map}
use Rattle.js_base.specs.declared.ids.VarId.{VarId}
use Rattle.js_base.specs.declared.ids.MethodId.{MethodId}
use Rattle.principals.specs.ActsFor.{Declared}
use Rattle.label_lattice.specs.declared.label.Label.{Label}
use Rattle.label_lattice.specs.Label.{ConfFlows}
use Rattle.label_lattice.specs.Lattice.{bottom_of}
use Rattle.jif_tree.specs.Trees.{ExprTree, number, local, scalar, element, inverted, negated, binary, declassified}
use Rattle.jif_tree.specs.Trees.{endorsed, MethodTree}
use Rattle.jif_tree.specs.LabelRules.{VariableLabels, setting_of, variable_label, expr_label, Holds, flow_of}
use Rattle.jif_tree.specs.LabelRules.{argument_flows, result_flows, return_flows, declared_labels}
use Rattle.jif_tree.specs.Labelling.{IsLabelled, IsLabelledIfAny}
use Rattle.jif_tree.specs.ValueLabels.{IsExprLabelled}
use Rattle.jif_tree.specs.WellNumbered.{IsExprIn, is_some}
use Rattle.jif_tree.proofs.LabelsKept.{Stay}
use Rattle.need_labels.specs.Labelled.{Labelled}
use Rattle.need_labels.specs.Needs.{tellings_in, label_of}
use Rattle.need_labels.specs.Plan.{field_host}
use Rattle.msg_cost.specs.Moves.{PlannedShape}
use Rattle.split_rules.specs.Positions.{field_reads}
use Rattle.split_rules.proofs.BackedLabels.{all_first, all_second, all_both}
use Rattle.split_rules.proofs.LabelsKept.{AreFinal, label_there}
use Rattle.split_rules.proofs.SeenLabels.{flows_first, sees_less}
use Rattle.split_rules.proofs.SeenBlocks.{IsToldWell, guard_same, flow_seen}
use Rattle.split_rules.proofs.ToldEmissions.{Sees}
use Rattle.split_shades.specs.Flows.{IsIndexSeen, AreIndexesSeen, ValueFlows, ArgumentsFlow, ResultFlows, AnswerFlows}
use Rattle.split_shades.proofs.BasisLabels.{flows_then, flows_self, bottom_flows, basis_of, same_value}

-- ---- indexes

-- what the hosts of fields learn of reads has the labels of the indexes
pub indexes_seen : (principals : Declared) (labelled : Labelled) (planned : PlannedShape) (tree : MethodTree)
    (method : MethodId) (pc : Label) (value : ExprTree) → IsExprIn labelled.program method value →
    AllByRecursion (IsToldWell labelled planned)
    (tellings_in (setting_of principals labelled.program tree) labelled pc value) →
    AreIndexesSeen (basis_of principals labelled) planned pc value
indexes_seen principals labelled planned tree method pc (number value) there told = tt
indexes_seen principals labelled planned tree method pc (local x) there told = tt
indexes_seen principals labelled planned tree method pc (scalar field) there told = (
  sees_less planned (field_host planned.plan field) (bottom_of principals) pc (bottom_flows principals pc)
      (told.0 there.0 there.1),
  tt,
)
indexes_seen principals labelled planned tree method pc (element field index) there told =
    let basis = basis_of principals labelled in
    let setting = setting_of principals labelled.program tree in
    let inner = tellings_in setting labelled pc index in
    let own = (all_second (IsToldWell labelled planned) inner _ told).1.0 in
    let field_there = there.0 in
    let P : Label → Type 0 = λ label. Sees planned (field_host planned.plan field) label in
    all_both (IsIndexSeen basis planned pc) (field_reads index) (record { field = field; index = index } ∷ [])
    (indexes_seen principals labelled planned tree method pc index there.1
    (all_first (IsToldWell labelled planned) inner _ told))
    (subst P (same_value principals labelled tree pc index) (own field_there.0 field_there.1), tt)
indexes_seen principals labelled planned tree method pc (inverted operand) there told =
    indexes_seen principals labelled planned tree method pc operand there told
indexes_seen principals labelled planned tree method pc (negated operand) there told =
    indexes_seen principals labelled planned tree method pc operand there told
indexes_seen principals labelled planned tree method pc (binary operator left right) there told =
    let basis = basis_of principals labelled in
    let setting = setting_of principals labelled.program tree in
    let one = tellings_in setting labelled pc left in
    let two = tellings_in setting labelled pc right in
    all_both (IsIndexSeen basis planned pc) (field_reads left) (field_reads right)
    (indexes_seen principals labelled planned tree method pc left there.0
    (all_first (IsToldWell labelled planned) one two told))
    (indexes_seen principals labelled planned tree method pc right there.1
    (all_second (IsToldWell labelled planned) one two told))
indexes_seen principals labelled planned tree method pc (declassified operand label) there told =
    indexes_seen principals labelled planned tree method pc operand there told
indexes_seen principals labelled planned tree method pc (endorsed operand label) there told =
    indexes_seen principals labelled planned tree method pc operand there told

-- ---- values

value_seen : (principals : Declared) (pc from to : Label) → Holds principals (flow_of pc from to) → ConfFlows from to
value_seen principals pc from to holds owner reader owner_in reader_in forbids =
    holds.0 owner reader owner_in reader_in (flows_first from pc owner reader owner_in reader_in forbids)

-- A value that flows to what was asked to flow to a label.
pub value_kept : (principals : Declared) (labelled : Labelled) (planned : PlannedShape) (tree : MethodTree)
    (labels final : VariableLabels) → AreFinal labelled final → Stay labels final → (pc : Label) (value : ExprTree) →
    IsExprLabelled labels value → AreIndexesSeen (basis_of principals labelled) planned pc value →
    (from to kept : Label) →
    ConfFlows (expr_label (setting_of principals labelled.program tree) pc labels value) from →
    Holds principals (flow_of pc from to) → to ≡ kept →
    ValueFlows (basis_of principals labelled) planned pc value kept
value_kept principals labelled planned tree labels final are stay pc value has indexes from to kept within holds is =
    let setting = setting_of principals labelled.program tree in
    let own = expr_label setting pc labels value in
    let same = guard_same labelled setting pc labels final are stay value has
    ∙ same_value principals labelled tree pc value in
    let P : Label → Type 0 = λ label. ConfFlows pc label in
    let Q : Label → Type 0 = λ label. ConfFlows own label in
    let R : Label → Type 0 = λ label. ConfFlows label kept in
    record {
      indexes = indexes;
      program = subst P is (flow_seen principals pc from to holds);
      value_flows = subst R same (subst Q is
          (flows_then own from to within (value_seen principals pc from to holds)));
    }

-- ---- calls

pub arguments_flow : (principals : Declared) (labelled : Labelled) (planned : PlannedShape) (tree : MethodTree)
    (labels final : VariableLabels) → AreFinal labelled final → Stay labels final → (method : MethodId) (pc : Label)
    (params : List VarId) (arguments : List ExprTree) →
    AllByRecursion (IsExprIn labelled.program method) arguments →
    AllByRecursion (IsExprLabelled labels) arguments → AllByRecursion (IsLabelled labels) params →
    let setting = setting_of principals labelled.program tree in
    AllByRecursion (Holds principals) (argument_flows setting pc labels arguments params) →
    AllByRecursion (IsToldWell labelled planned) (flat_map (tellings_in setting labelled pc) arguments) →
    ArgumentsFlow (basis_of principals labelled) planned pc params arguments
arguments_flow principals labelled planned tree labels final are stay method pc params [] there values has holds told =
    tt
arguments_flow principals labelled planned tree labels final are stay method pc [] (argument ∷ others) there values has
    holds told = tt
arguments_flow principals labelled planned tree labels final are stay method pc (param ∷ params) (argument ∷ others)
    there values has holds told =
    let setting = setting_of principals labelled.program tree in
    let own = tellings_in setting labelled pc argument in
    let from = expr_label setting pc labels argument in (
      value_kept principals labelled planned tree labels final are stay pc argument values.0
          (indexes_seen principals labelled planned tree method pc argument there.0
          (all_first (IsToldWell labelled planned) own _ told)) from (variable_label labels param)
          (label_of labelled param) (flows_self from) holds.0
          (sym (label_there labelled labels final are stay param has.0)),
      arguments_flow principals labelled planned tree labels final are stay method pc params others there.1 values.1
          has.1 holds.1 (all_second (IsToldWell labelled planned) own _ told),
    )

-- a variable that has a label has it later
still_labelled : (labels later : VariableLabels) → Stay labels later → (x : VarId) → IsLabelled labels x →
    IsLabelled later x
still_labelled labels later stay x (label, there) = (label, stay.kept x.0 label there)

pub result_flows_on : (principals : Declared) (labelled : Labelled) (planned : PlannedShape) (tree : MethodTree)
    (labels final : VariableLabels) → AreFinal labelled final → Stay labels final →
    Stay (declared_labels labelled.program) labels → (pc : Label) (result into : Option VarId) →
    is_some result ≡ is_some into → IsLabelledIfAny (declared_labels labelled.program) result →
    IsLabelledIfAny labels into →
    AllByRecursion (Holds principals) (result_flows pc labels result into) →
    ResultFlows (basis_of principals labelled) planned pc result into
result_flows_on principals labelled planned tree labels final are stay since pc (Some result) (Some into) both declared
    has holds =
    let there = still_labelled (declared_labels labelled.program) labels since result declared in
    let from = variable_label labels result in
    value_kept principals labelled planned tree labels final are stay pc (local result) there tt from
    (variable_label labels into) (label_of labelled into) (flows_self from) holds.0
    (sym (label_there labelled labels final are stay into has))
result_flows_on principals labelled planned tree labels final are stay since pc (Some result) None both declared has
    holds = tt
result_flows_on principals labelled planned tree labels final are stay since pc None (Some into) both declared has
    holds = absurd (true≢false (sym both))
result_flows_on principals labelled planned tree labels final are stay since pc None None both declared has holds = tt

pub answer_flows : (principals : Declared) (labelled : Labelled) (planned : PlannedShape) (tree : MethodTree)
    (labels final : VariableLabels) → AreFinal labelled final → Stay labels final → (pc : Label) (value : ExprTree) →
    IsExprLabelled labels value → AreIndexesSeen (basis_of principals labelled) planned pc value →
    (result : Option VarId) → is_some result ≡ true → IsLabelledIfAny labels result →
    let from = expr_label (setting_of principals labelled.program tree) pc labels value in
    AllByRecursion (Holds principals) (return_flows pc labels result from) →
    AnswerFlows (basis_of principals labelled) planned pc result value
answer_flows principals labelled planned tree labels final are stay pc value values indexes None some has holds =
    absurd (true≢false (sym some))
answer_flows principals labelled planned tree labels final are stay pc value values indexes (Some result) some has
    holds =
    let from = expr_label (setting_of principals labelled.program tree) pc labels value in
    value_kept principals labelled planned tree labels final are stay pc value values indexes from
    (variable_label labels result) (label_of labelled result) (flows_self from) holds.0
    (sym (label_there labelled labels final are stay result has))
