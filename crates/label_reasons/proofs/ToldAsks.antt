-- What is asked for is told of: there is a cause exactly where the label that is asked about has a trait. And its
-- labels are over the declared principals.
use Rattle.std.proofs.Common.{◌≡◌, inl, inr, ℕ, ◌+◌, List, [], ◌∷◌, ◌++◌, All, flat_map, refl}
use Rattle.std.proofs.Common.{sym, subst}
use Rattle.std.specs.Prelude.{Option, Some, None, unwrap_or, slice_get, slice_set}
use Rattle.std.specs.List.{AllByRecursion}
use Rattle.std.specs.Option.{option_map}
use Rattle.std.proofs.lemmas.Bool.{cases_eq}
use Rattle.std.proofs.lemmas.List.Concat.{flat_map-cons}
use Rattle.std.proofs.lemmas.List.Elements.{All-append, All-nil, All-cons, All-head, All-tail}
use Rattle.std.proofs.lemmas.Option.{slice_get_cases, slice_get-map}
use Rattle.js_base.specs.declared.ids.FieldId.{FieldId}
use Rattle.js_base.specs.declared.ids.VarId.{VarId}
use Rattle.js_base.specs.declared.ids.MethodId.{MethodId}
use Rattle.js_base.specs.declared.ids.StmtId.{StmtId}
use Rattle.principals.specs.ActsFor.{Declared, AreDeclared}
use Rattle.label_lattice.specs.declared.label.Label.{Label}
use Rattle.label_lattice.specs.Over.{IsLabelOver}
use Rattle.label_lattice.specs.Lattice.{empty_label, join_of}
use Rattle.jif_tree.specs.Trees.{ExprTree, number, local, scalar, element, inverted, negated, binary, declassified}
use Rattle.jif_tree.specs.Trees.{endorsed, BlockTree, done, set_local, set_field, set_element, branch, loop, call}
use Rattle.jif_tree.specs.Trees.{give_back, VarTree, MethodTree, ProgramTree}
use Rattle.jif_tree.specs.LabelRules.{VariableLabels, variable_label, field_label}
use Rattle.jif_tree.specs.LabelRules.{labels_after_assignment, method_at, begin_label, params_of, result_of}
use Rattle.jif_tree.specs.LabelRules.{declared_labels}
use Rattle.jif_tree.specs.ValueLabels.{IsExprLabelled, AreValuesLabelled, AreAllValuesLabelled}
use Rattle.jif_tree.specs.WrittenLabels.{written_in, written_in_block, label_of_variable}
use Rattle.label_check.specs.RuleLaws.{AreNamedOver}
use Rattle.label_check.proofs.LabelOrder.{LabelOrder, expr_over}
use Rattle.label_reasons.specs.declared.reason.Trait.{Trait}
use Rattle.label_reasons.specs.declared.reason.Cause.{Cause}
use Rattle.label_reasons.specs.declared.reason.Source.TheVariants.{OfBegin, OfVariable}
use Rattle.label_reasons.specs.declared.reason.Wanted.{Wanted}
use Rattle.label_reasons.specs.declared.reason.Wanted.TheVariants.{KeptInField, KeptInLocal, Given, GivenBack}
use Rattle.label_reasons.specs.Traits.{has, IsDeclaredTrait}
use Rattle.label_reasons.specs.Causes.{or_else, cause_where, TellsCause, TellsVariables, IsMadeOfLabels}
use Rattle.label_reasons.specs.Causes.{declared_causes}
use Rattle.label_reasons.specs.Asks.{StatementSpot, Ask, label_at, cause_at, spot_after, spot_assigned, spot_inside}
use Rattle.label_reasons.specs.Asks.{spot_with}
use Rattle.label_reasons.specs.Asks.{release_ask, trust_ask, endorse_ask, element_ask, begin_ask, result_ask}
use Rattle.label_reasons.specs.Asks.{expr_asks, flow_ask, value_ask, value_asks, element_asks, argument_asks}
use Rattle.label_reasons.specs.Asks.{result_asks, call_flows, call_asks, return_flows, return_asks, block_asks}
use Rattle.label_reasons.specs.Asks.{method_spot, methods_asks, program_asks}
use Rattle.label_reasons.specs.Reasons.{IsTold, IsConstraintOver}
use Rattle.label_reasons.specs.Programs.{IsMethodOver, IsProgramOver}
use Rattle.label_reasons.proofs.TraitTests.{has_join}
use Rattle.label_reasons.proofs.ExpressionCauses.{LabelLaws, as_both, or_some, where_some, is_trait, expr_tells}
use Rattle.label_reasons.proofs.ExpressionCauses.{declared_tells}
use Rattle.label_reasons.proofs.BlockCauses.{set_there, set_elsewhere, assignment_tells, guarded_tells}

-- what is cited of labels over the declared principals
pub record OverLaws (principals : Declared) : Type 0 where
  pub labels : LabelLaws
  pub order : LabelOrder principals

-- ---- parts of lists

left_of : {X : Type 0} (P : X → Type 0) (xs ys : List X) → All P (xs ++ ys) → All P xs
left_of P [] ys all = All-nil P
left_of P (x ∷ xs) ys all =
    All-cons P x xs (All-head P x (xs ++ ys) all) (left_of P xs ys (All-tail P x (xs ++ ys) all))

right_of : {X : Type 0} (P : X → Type 0) (xs ys : List X) → All P (xs ++ ys) → All P ys
right_of P [] ys all = all
right_of P (x ∷ xs) ys all = right_of P xs ys (All-tail P x (xs ++ ys) all)

-- ---- spots

-- where labels are over the declared principals, and causes tell of them
pub record IsSpotOver (spot : StatementSpot) : Type 0 where
  pub named : AreNamedOver spot.setting spot.labels
  pub under : IsLabelOver spot.setting.principals spot.pc
  pub begins : (method : MethodId) →
      IsLabelOver spot.setting.principals (begin_label (method_at spot.setting.program method))
  pub authority : AreDeclared spot.setting.principals spot.setting.authority
  pub of_pc : (trait : Trait) → IsDeclaredTrait spot.setting.principals trait →
      TellsCause trait (spot.of_pc trait) spot.pc
  pub variables : (trait : Trait) → IsDeclaredTrait spot.setting.principals trait →
      TellsVariables trait (spot.causes trait) spot.labels

-- what is written in an expression
abbrev AreWritten : StatementSpot → ExprTree → Type 0
AreWritten spot value = All (IsLabelOver spot.setting.principals) (written_in value)

-- ---- expressions

over_at : (spot : StatementSpot) → OverLaws spot.setting.principals → IsSpotOver spot → (value : ExprTree) →
    AreWritten spot value → IsLabelOver spot.setting.principals (label_at spot value)
over_at spot laws is value written = expr_over {setting = spot.setting} laws.order spot.pc value is.under is.named
    written

made_over : (spot : StatementSpot) → OverLaws spot.setting.principals → IsSpotOver spot → (value : ExprTree) →
    AreWritten spot value → IsMadeOfLabels spot.setting spot.pc spot.labels value
made_over spot laws is (number value) written = tt
made_over spot laws is (local x) written = tt
made_over spot laws is (scalar field) written = tt
made_over spot laws is (element field index) written = (
  (is.named.fields field).is_label,
  (over_at spot laws is index written).is_label,
  made_over spot laws is index written,
)
made_over spot laws is (inverted operand) written = made_over spot laws is operand written
made_over spot laws is (negated operand) written = made_over spot laws is operand written
made_over spot laws is (binary operator left right) written =
    let P : Label → Type 0 = IsLabelOver spot.setting.principals in
    let one = left_of P (written_in left) (written_in right) written in
    let other = right_of P (written_in left) (written_in right) written in (
      (over_at spot laws is left one).is_label,
      (over_at spot laws is right other).is_label,
      made_over spot laws is left one,
      made_over spot laws is right other,
    )
made_over spot laws is (declassified operand label) written =
    let P : Label → Type 0 = IsLabelOver spot.setting.principals in
    let here = All-head P label [] (right_of P (written_in operand) (label ∷ []) written) in (
      here.is_label,
      (laws.order.join label spot.pc here is.under).is_label,
      made_over spot laws is operand (left_of P (written_in operand) (label ∷ []) written),
    )
made_over spot laws is (endorsed operand label) written =
    let P : Label → Type 0 = IsLabelOver spot.setting.principals in
    let here = All-head P label [] (right_of P (written_in operand) (label ∷ []) written) in
    let inner = left_of P (written_in operand) (label ∷ []) written in
    (here.is_label, (over_at spot laws is operand inner).is_label, made_over spot laws is operand inner)

value_told : (spot : StatementSpot) → OverLaws spot.setting.principals → IsSpotOver spot →
    (here : StmtId) (value : ExprTree) →
    AreWritten spot value → IsExprLabelled spot.labels value → (trait : Trait) →
    IsDeclaredTrait spot.setting.principals trait →
    TellsCause trait (cause_at spot here value trait) (label_at spot value)
value_told spot laws is here value written known trait within =
    expr_tells laws.labels trait spot.setting here (spot.of_pc trait) spot.pc (spot.causes trait) spot.labels value
    within
    is.under.is_label (made_over spot laws is value written) (is.of_pc trait within) (is.variables trait within) known

-- what is known of what is asked for
pub record IsAskOver (principals : Declared) (ask : Ask) : Type 0 where
  pub over : IsConstraintOver principals ask.constraint
  pub told : IsTold principals ask

abbrev AreAsksOver : StatementSpot → List Ask → Type 0
AreAsksOver spot asks = All (IsAskOver spot.setting.principals) asks

expr_good : (spot : StatementSpot) → OverLaws spot.setting.principals → IsSpotOver spot →
    (here : StmtId) (value : ExprTree) →
    AreWritten spot value → IsExprLabelled spot.labels value → AreAsksOver spot (expr_asks spot here value)
expr_good spot laws is here (number value) written known = All-nil (IsAskOver spot.setting.principals)
expr_good spot laws is here (local x) written known = All-nil (IsAskOver spot.setting.principals)
expr_good spot laws is here (scalar field) written known = All-nil (IsAskOver spot.setting.principals)
expr_good spot laws is here (element field index) written known = expr_good spot laws is here index written known
expr_good spot laws is here (inverted operand) written known = expr_good spot laws is here operand written known
expr_good spot laws is here (negated operand) written known = expr_good spot laws is here operand written known
expr_good spot laws is here (binary operator left right) written known =
    let P : Label → Type 0 = IsLabelOver spot.setting.principals in
    All-append (IsAskOver spot.setting.principals) (expr_asks spot here left) (expr_asks spot here right)
    (expr_good spot laws is here left (left_of P (written_in left) (written_in right) written) known.0)
    (expr_good spot laws is here right (right_of P (written_in left) (written_in right) written) known.1)
expr_good spot laws is here (declassified operand label) written known =
    let P : Label → Type 0 = IsLabelOver spot.setting.principals in
    let Q : Ask → Type 0 = IsAskOver spot.setting.principals in
    let inner = left_of P (written_in operand) (label ∷ []) written in
    All-append Q (expr_asks spot here operand) (release_ask spot here operand label ∷ trust_ask spot here ∷ [])
    (expr_good spot laws is here operand inner known)
    (All-cons Q (release_ask spot here operand label) (trust_ask spot here ∷ []) (record {
      over = (is.authority, over_at spot laws is operand inner);
      told = value_told spot laws is here operand inner known;
    }) (All-cons Q (trust_ask spot here) [] (record { over = is.authority; told = is.of_pc }) (All-nil Q)))
expr_good spot laws is here (endorsed operand label) written known =
    let P : Label → Type 0 = IsLabelOver spot.setting.principals in
    let Q : Ask → Type 0 = IsAskOver spot.setting.principals in
    let inner = left_of P (written_in operand) (label ∷ []) written in
    All-append Q (expr_asks spot here operand) (endorse_ask spot here operand label ∷ [])
    (expr_good spot laws is here operand inner known)
    (All-cons Q (endorse_ask spot here operand label) [] (record {
      over = (is.authority, All-head P label [] (right_of P (written_in operand) (label ∷ []) written));
      told = value_told spot laws is here operand inner known;
    }) (All-nil Q))

-- ---- flows

-- a label over the principals, and causes that tell of it
record IsToldLabel (principals : Declared) (cause : Trait → Option Cause) (label : Label) : Type 0 where
  over : IsLabelOver principals label
  told : (trait : Trait) → IsDeclaredTrait principals trait → TellsCause trait (cause trait) label

joined : (principals : Declared) → OverLaws principals → (one other : Trait → Option Cause) (first second : Label) →
    IsToldLabel principals one first → IsToldLabel principals other second →
    IsToldLabel principals (λ trait. or_else (one trait) (other trait)) (join_of first second)
joined principals laws one other first second is also = record {
  over = laws.order.join first second is.over also.over;
  told = λ trait within. as_both
      (or_some (one trait) (other trait) (is.told trait within) (also.told trait within))
      (has_join laws.labels.joined laws.labels.trusted trait first second (is_trait principals trait within)
      is.over.is_label also.over.is_label);
}

value_is : (spot : StatementSpot) → OverLaws spot.setting.principals → IsSpotOver spot →
    (here : StmtId) (value : ExprTree) →
    AreWritten spot value → IsExprLabelled spot.labels value →
    IsToldLabel spot.setting.principals (cause_at spot here value) (label_at spot value)
value_is spot laws is here value written known = record {
  over = over_at spot laws is value written;
  told = value_told spot laws is here value written known;
}

flow_good : (spot : StatementSpot) → OverLaws spot.setting.principals → IsSpotOver spot →
    (here : StmtId) (wanted : Wanted)
    (from : Label) (cause : Trait → Option Cause) (to : Label) → IsToldLabel spot.setting.principals cause from →
    IsLabelOver spot.setting.principals to → IsAskOver spot.setting.principals (flow_ask spot here wanted from cause to)
flow_good spot laws is here wanted from cause to value other =
    let both = joined spot.setting.principals laws cause spot.of_pc from spot.pc value
    (record { over = is.under; told = is.of_pc }) in
    record { over = (both.over, other); told = both.told }

value_good : (spot : StatementSpot) → OverLaws spot.setting.principals → IsSpotOver spot →
    (here : StmtId) (wanted : Wanted)
    (value : ExprTree) (to : Label) → AreWritten spot value → IsExprLabelled spot.labels value →
    IsLabelOver spot.setting.principals to → AreAsksOver spot (value_asks spot here wanted value to)
value_good spot laws is here wanted value to written known other =
    let Q : Ask → Type 0 = IsAskOver spot.setting.principals in
    All-append Q (expr_asks spot here value) (value_ask spot here wanted value to ∷ [])
    (expr_good spot laws is here value written known)
    (All-cons Q (value_ask spot here wanted value to) []
    (flow_good spot laws is here wanted (label_at spot value) (cause_at spot here value) to
    (value_is spot laws is here value written known) other) (All-nil Q))

element_good : (spot : StatementSpot) → OverLaws spot.setting.principals → IsSpotOver spot →
    (here : StmtId) (field : FieldId)
    (index value : ExprTree) → AreWritten spot index → AreWritten spot value → IsExprLabelled spot.labels index →
    IsExprLabelled spot.labels value → AreAsksOver spot (element_asks spot here field index value)
element_good spot laws is here field index value first second one other =
    let Q : Ask → Type 0 = IsAskOver spot.setting.principals in
    All-append Q (expr_asks spot here index ++ expr_asks spot here value) (element_ask spot here field index value ∷ [])
    (All-append Q (expr_asks spot here index) (expr_asks spot here value)
    (expr_good spot laws is here index first one) (expr_good spot laws is here value second other))
    (All-cons Q (element_ask spot here field index value) [] (flow_good spot laws is here _ _ _
    (field_label spot.setting.program field)
    (joined spot.setting.principals laws (cause_at spot here index) (cause_at spot here value) (label_at spot index)
    (label_at spot value) (value_is spot laws is here index first one) (value_is spot laws is here value second other))
    (is.named.fields field)) (All-nil Q))

-- ---- calls

arguments_good : (spot : StatementSpot) → OverLaws spot.setting.principals → IsSpotOver spot → (here : StmtId)
    (method : MethodId) (place : ℕ) (values : List ExprTree) (params : List VarId) →
    All (IsLabelOver spot.setting.principals) (flat_map written_in values) →
    AllByRecursion (IsExprLabelled spot.labels) values →
    AreAsksOver spot (argument_asks spot here method place values params)
arguments_good spot laws is here method place [] params written known = All-nil (IsAskOver spot.setting.principals)
arguments_good spot laws is here method place (value ∷ values) [] written known =
    All-nil (IsAskOver spot.setting.principals)
arguments_good spot laws is here method place (value ∷ values) (param ∷ params) written known =
    let P : Label → Type 0 = IsLabelOver spot.setting.principals in
    let R : List Label → Type 0 = λ labels. All P labels in
    let parts = subst R (flat_map-cons written_in value values) written in
    All-cons (IsAskOver spot.setting.principals)
    (value_ask spot here (Given place param method) value (variable_label spot.labels param))
    (argument_asks spot here method (place + 1) values params)
    (flow_good spot laws is here _ (label_at spot value) (cause_at spot here value) _
    (value_is spot laws is here value (left_of P (written_in value) (flat_map written_in values) parts) known.0)
    (is.named.variables param))
    (arguments_good spot laws is here method (place + 1) values params
    (right_of P (written_in value) (flat_map written_in values) parts) known.1)

exprs_good : (spot : StatementSpot) → OverLaws spot.setting.principals → IsSpotOver spot → (here : StmtId)
    (values : List ExprTree) → All (IsLabelOver spot.setting.principals) (flat_map written_in values) →
    AllByRecursion (IsExprLabelled spot.labels) values → AreAsksOver spot (flat_map (expr_asks spot here) values)
exprs_good spot laws is here [] written known = All-nil (IsAskOver spot.setting.principals)
exprs_good spot laws is here (value ∷ values) written known =
    let P : Label → Type 0 = IsLabelOver spot.setting.principals in
    let R : List Label → Type 0 = λ labels. All P labels in
    let parts = subst R (flat_map-cons written_in value values) written in
    rw (flat_map-cons (expr_asks spot here) value values)
    (All-append (IsAskOver spot.setting.principals) (expr_asks spot here value)
    (flat_map (expr_asks spot here) values)
    (expr_good spot laws is here value (left_of P (written_in value) (flat_map written_in values) parts) known.0)
    (exprs_good spot laws is here values (right_of P (written_in value) (flat_map written_in values) parts) known.1))

result_good : (spot : StatementSpot) → OverLaws spot.setting.principals → IsSpotOver spot → (here : StmtId)
    (method : MethodId) (result into : Option VarId) → AreAsksOver spot (result_asks spot here method result into)
result_good spot laws is here method None into = All-nil (IsAskOver spot.setting.principals)
result_good spot laws is here method (Some result) None = All-nil (IsAskOver spot.setting.principals)
result_good spot laws is here method (Some result) (Some into) =
    let label = variable_label spot.labels result in
    All-cons (IsAskOver spot.setting.principals) (result_ask spot here method result into) []
    (flow_good spot laws is here _ label (λ trait. cause_where (has trait label) (OfVariable result)) _
    (record {
      over = is.named.variables result;
      told = λ trait within. where_some (has trait label) (OfVariable result);
    }) (is.named.variables into)) (All-nil (IsAskOver spot.setting.principals))

call_good : (spot : StatementSpot) → OverLaws spot.setting.principals → IsSpotOver spot → (here : StmtId)
    (method : MethodId) (values : List ExprTree) (into : Option VarId) →
    All (IsLabelOver spot.setting.principals) (flat_map written_in values) →
    AllByRecursion (IsExprLabelled spot.labels) values → AreAsksOver spot (call_asks spot here method values into)
call_good spot laws is here method values into written known =
    let Q : Ask → Type 0 = IsAskOver spot.setting.principals in
    let called = method_at spot.setting.program method in
    All-append Q (flat_map (expr_asks spot here) values) (call_flows spot here method values into)
    (exprs_good spot laws is here values written known)
    (All-cons Q (begin_ask spot here method)
    (argument_asks spot here method 0 values (params_of called) ++ result_asks spot here method (result_of called) into)
    (record { over = (is.under, is.begins method); told = is.of_pc })
    (All-append Q (argument_asks spot here method 0 values (params_of called))
    (result_asks spot here method (result_of called) into)
    (arguments_good spot laws is here method 0 values (params_of called) written known)
    (result_good spot laws is here method (result_of called) into)))

return_good : (spot : StatementSpot) → OverLaws spot.setting.principals → IsSpotOver spot → (here : StmtId)
    (result : Option VarId) (value : ExprTree) → AreWritten spot value → IsExprLabelled spot.labels value →
    AreAsksOver spot (return_flows spot here result value)
return_good spot laws is here None value written known = All-nil (IsAskOver spot.setting.principals)
return_good spot laws is here (Some result) value written known =
    All-cons (IsAskOver spot.setting.principals)
    (value_ask spot here (GivenBack result) value (variable_label spot.labels result)) []
    (flow_good spot laws is here _ (label_at spot value) (cause_at spot here value) _
    (value_is spot laws is here value written known) (is.named.variables result))
    (All-nil (IsAskOver spot.setting.principals))

-- ---- spots along a block

set_over : (P : Label → Type 0) (labels : VariableLabels) (x : VarId) (label : Label) →
    slice_get labels x.0 ≡ Some None → P label → ((y : VarId) → P (variable_label labels y)) → (y : VarId) →
    P (variable_label (slice_set labels x.0 (Some label)) y)
set_over P labels x label found holds all y = elim (cases_eq y.0 x.0) [
  | inl same ↦
      let R : ℕ → Type 0 = λ place. slice_get (slice_set labels x.0 (Some label)) place ≡ Some (Some label) in
      let there : R y.0 = subst R (sym same) (set_there labels x.0 None (Some label) found) in
      rw there holds
  | inr other ↦
      let elsewhere : slice_get (slice_set labels x.0 (Some label)) y.0 ≡ slice_get labels y.0 =
      set_elsewhere labels x.0 y.0 (Some label) other in
      rw elsewhere (all y)
]

assigned_over : (P : Label → Type 0) (labels : VariableLabels) (x : VarId) (label : Label) → P label →
    ((y : VarId) → P (variable_label labels y)) → (y : VarId) →
    P (variable_label (labels_after_assignment labels x label) y)
assigned_over P labels x label holds all = by (slice_get labels x.0) refl
  where
    by : (found : Option (Option Label)) → slice_get labels x.0 ≡ found → (y : VarId) →
        P (variable_label (labels_after_assignment labels x label) y)
    by None is y = rw is (all y)
    by (Some (Some declared)) is y = rw is (all y)
    by (Some None) is y = rw is (set_over P labels x label is holds all y)

assigned_good : (spot : StatementSpot) → OverLaws spot.setting.principals → IsSpotOver spot →
    (here : StmtId) (x : VarId)
    (value : ExprTree) → AreWritten spot value → IsExprLabelled spot.labels value →
    IsSpotOver (spot_assigned spot here x value)
assigned_good spot laws is here x value written known =
    let principals = spot.setting.principals in
    let label = join_of (label_at spot value) spot.pc in
    let both = joined principals laws (cause_at spot here value) spot.of_pc (label_at spot value) spot.pc
    (value_is spot laws is here value written known) (record { over = is.under; told = is.of_pc }) in
    record {
      named = record {
        declared = is.named.declared;
        fields = is.named.fields;
        variables = assigned_over (IsLabelOver principals) spot.labels x label both.over is.named.variables;
      };
      under = is.under;
      begins = is.begins;
      authority = is.authority;
      of_pc = is.of_pc;
      variables = λ trait within. assignment_tells trait spot.labels (spot.causes trait) x here
          (or_else (cause_at spot here value trait) (spot.of_pc trait)) label (is.variables trait within)
          (both.told trait within);
    }

inside_good : (spot : StatementSpot) → OverLaws spot.setting.principals → IsSpotOver spot → (here : StmtId)
    (guard : ExprTree) → AreWritten spot guard → IsExprLabelled spot.labels guard →
    IsSpotOver (spot_inside spot here guard)
inside_good spot laws is here guard written known = record {
  named = is.named;
  under = laws.order.join spot.pc (label_at spot guard) is.under (over_at spot laws is guard written);
  begins = is.begins;
  authority = is.authority;
  of_pc = λ trait within. guarded_tells laws.labels trait spot.setting here (spot.of_pc trait) spot.pc
      (spot.causes trait) spot.labels guard within is.under.is_label (made_over spot laws is guard written)
      (over_at spot laws is guard written).is_label (is.of_pc trait within) (is.variables trait within) known;
  variables = is.variables;
}

with_good : (spot inner : StatementSpot) → IsSpotOver spot → AreNamedOver spot.setting inner.labels →
    ((trait : Trait) → IsDeclaredTrait spot.setting.principals trait →
    TellsVariables trait (inner.causes trait) inner.labels) → IsSpotOver (spot_with spot inner)
with_good spot inner is named variables = record {
  named = named;
  under = is.under;
  begins = is.begins;
  authority = is.authority;
  of_pc = is.of_pc;
  variables = variables;
}

-- ---- blocks

-- what is asked for in a block, and what is known behind it
record IsBlockOver (spot : StatementSpot) (block : BlockTree) : Type 0 where
  asks : AreAsksOver spot (block_asks spot block)
  after : IsSpotOver (spot_after spot block)

block_good : (spot : StatementSpot) → OverLaws spot.setting.principals → IsSpotOver spot → (block : BlockTree) →
    All (IsLabelOver spot.setting.principals) (written_in_block block) →
    AreValuesLabelled spot.setting spot.pc spot.labels block → IsBlockOver spot block
block_good spot laws is done written known = record { asks = All-nil (IsAskOver spot.setting.principals); after = is }
block_good spot laws is (set_local heading x value rest) written known =
    let P : Label → Type 0 = IsLabelOver spot.setting.principals in
    let one = left_of P (written_in value) (written_in_block rest) written in
    let assigned = assigned_good spot laws is heading.id x value one known.0 in
    let after = spot_assigned spot heading.id x value in
    let to = variable_label after.labels x in
    let left = block_good after laws assigned rest
    (right_of P (written_in value) (written_in_block rest) written) known.1 in
    record {
      asks = All-append (IsAskOver spot.setting.principals) (value_asks spot heading.id (KeptInLocal x) value to)
          (block_asks after rest) (value_good spot laws is heading.id (KeptInLocal x) value to one known.0
          (assigned.named.variables x)) left.asks;
      after = left.after;
    }
block_good spot laws is (set_field heading field value rest) written known =
    let P : Label → Type 0 = IsLabelOver spot.setting.principals in
    let to = field_label spot.setting.program field in
    let left = block_good spot laws is rest (right_of P (written_in value) (written_in_block rest) written) known.1 in
    record {
      asks = All-append (IsAskOver spot.setting.principals) (value_asks spot heading.id (KeptInField field) value to)
          (block_asks spot rest) (value_good spot laws is heading.id (KeptInField field) value to
          (left_of P (written_in value) (written_in_block rest) written)
          known.0 (is.named.fields field)) left.asks;
      after = left.after;
    }
block_good spot laws is (set_element heading field index value rest) written known =
    let P : Label → Type 0 = IsLabelOver spot.setting.principals in
    let both = left_of P (written_in index ++ written_in value) (written_in_block rest) written in
    let left = block_good spot laws is rest
    (right_of P (written_in index ++ written_in value) (written_in_block rest) written) known.2 in
    record {
      asks = All-append (IsAskOver spot.setting.principals) (element_asks spot heading.id field index value)
          (block_asks spot rest)
          (element_good spot laws is heading.id field index value
          (left_of P (written_in index) (written_in value) both) (right_of P (written_in index) (written_in value) both)
          known.0 known.1) left.asks;
      after = left.after;
    }
block_good spot laws is (branch heading guard first second rest) written known =
    let P : Label → Type 0 = IsLabelOver spot.setting.principals in
    let Q : Ask → Type 0 = IsAskOver spot.setting.principals in
    let blocks = left_of P ((written_in guard ++ written_in_block first) ++ written_in_block second)
    (written_in_block rest) written in
    let before = left_of P (written_in guard ++ written_in_block first) (written_in_block second) blocks in
    let guards = left_of P (written_in guard) (written_in_block first) before in
    let within = spot_inside spot heading.id guard in
    let inside = inside_good spot laws is heading.id guard guards known.0 in
    let one = block_good within laws inside first (right_of P (written_in guard) (written_in_block first) before)
    known.1 in
    let between = spot_after within first in
    let two = block_good between laws one.after second
    (right_of P (written_in guard ++ written_in_block first) (written_in_block second) blocks) known.2 in
    let behind = spot_with spot (spot_after between second) in
    let left = block_good behind laws
    (with_good spot (spot_after between second) is two.after.named two.after.variables) rest
    (right_of P ((written_in guard ++ written_in_block first) ++ written_in_block second) (written_in_block rest)
    written) known.3 in
    record {
      asks = All-append Q (expr_asks spot heading.id guard)
          (block_asks within first ++ block_asks between second ++ block_asks behind rest)
          (expr_good spot laws is heading.id guard guards known.0)
          (All-append Q (block_asks within first ++ block_asks between second) (block_asks behind rest)
          (All-append Q (block_asks within first) (block_asks between second) one.asks two.asks) left.asks);
      after = left.after;
    }
block_good spot laws is (loop heading guard body rest) written known =
    let P : Label → Type 0 = IsLabelOver spot.setting.principals in
    let Q : Ask → Type 0 = IsAskOver spot.setting.principals in
    let before = left_of P (written_in guard ++ written_in_block body) (written_in_block rest) written in
    let guards = left_of P (written_in guard) (written_in_block body) before in
    let within = spot_inside spot heading.id guard in
    let inside = inside_good spot laws is heading.id guard guards known.0 in
    let one = block_good within laws inside body (right_of P (written_in guard) (written_in_block body) before)
    known.1 in
    let behind = spot_with spot (spot_after within body) in
    let left = block_good behind laws
    (with_good spot (spot_after within body) is one.after.named one.after.variables) rest
    (right_of P (written_in guard ++ written_in_block body) (written_in_block rest) written) known.2 in
    record {
      asks = All-append Q (expr_asks spot heading.id guard ++ expr_asks within heading.id guard)
          (block_asks within body ++ block_asks behind rest)
          (All-append Q (expr_asks spot heading.id guard) (expr_asks within heading.id guard)
          (expr_good spot laws is heading.id guard guards known.0)
          (expr_good within laws inside heading.id guard guards known.0))
          (All-append Q (block_asks within body) (block_asks behind rest) one.asks left.asks);
      after = left.after;
    }
block_good spot laws is (call heading site method arguments into rest) written known =
    let P : Label → Type 0 = IsLabelOver spot.setting.principals in
    let left = block_good spot laws is rest
    (right_of P (flat_map written_in arguments) (written_in_block rest) written) known.1 in
    record {
      asks = All-append (IsAskOver spot.setting.principals) (call_asks spot heading.id method arguments into)
          (block_asks spot rest)
          (call_good spot laws is heading.id method arguments into
          (left_of P (flat_map written_in arguments) (written_in_block rest) written) known.0) left.asks;
      after = left.after;
    }
block_good spot laws is (give_back heading value rest) written known =
    let P : Label → Type 0 = IsLabelOver spot.setting.principals in
    let Q : Ask → Type 0 = IsAskOver spot.setting.principals in
    let one = left_of P (written_in value) (written_in_block rest) written in
    let left = block_good spot laws is rest (right_of P (written_in value) (written_in_block rest) written) known.1 in
    record {
      asks = All-append Q (return_asks spot heading.id value) (block_asks spot rest)
          (All-append Q (expr_asks spot heading.id value) (return_flows spot heading.id spot.setting.result value)
          (expr_good spot laws is heading.id value one known.0)
          (return_good spot laws is heading.id spot.setting.result value one known.0)) left.asks;
      after = left.after;
    }

-- ---- programs

-- what holds of what is made of an item, and where there is none
at_place : {X Y : Type 0} (Q : Y → Type 0) (P : X → Type 0) (f : Option X → Y) → Q (f None) →
    ((x : X) → P x → Q (f (Some x))) → (xs : List X) → All P xs → (k : ℕ) → Q (f (slice_get xs k))
at_place {X} {Y} Q P f none makes xs all k = elim (slice_get_cases xs k).1 [
  | inl (x, within, is, read) ↦
      let R : Option X → Type 0 = λ found. Q (f found) in
      let S : X → Type 0 = P in
      subst R (sym is) (makes x (subst S read (all k x within)))
  | inr (past, missing) ↦
      let R : Option X → Type 0 = λ found. Q (f found) in
      subst R (sym missing) none
]

field_over : (principals : Declared) (program : ProgramTree) → IsLabelOver principals empty_label →
    All (λ field. IsLabelOver principals field.label) program.fields → (field : FieldId) →
    IsLabelOver principals (field_label program field)
field_over principals program empty all field =
    at_place (IsLabelOver principals) (λ tree. IsLabelOver principals tree.label)
    (λ found. unwrap_or (option_map (λ tree. tree.label) found) empty_label) empty (λ tree is. is) program.fields all
    field.0

begin_over : (principals : Declared) (program : ProgramTree) → IsLabelOver principals empty_label →
    All (IsMethodOver principals) program.methods → (method : MethodId) →
    IsLabelOver principals (begin_label (method_at program method))
begin_over principals program empty all method =
    at_place (IsLabelOver principals) (IsMethodOver principals) begin_label empty (λ tree is. is.begin) program.methods
    all method.0

variable_over : (principals : Declared) (program : ProgramTree) → IsLabelOver principals empty_label →
    All (λ variable. All (IsLabelOver principals) (label_of_variable variable.label)) program.vars → (x : VarId) →
    IsLabelOver principals (variable_label (declared_labels program) x)
variable_over principals program empty all x =
    rw (slice_get-map (λ variable. variable.label) program.vars x.0)
    (at_place (IsLabelOver principals) P
    (λ found. unwrap_or (unwrap_or (option_map (λ variable. variable.label) found) None) empty_label) empty
    (λ tree is. written tree.label is) program.vars all x.0)
  where
    P : VarTree → Type 0
    P variable = All (IsLabelOver principals) (label_of_variable variable.label)

    written : (label : Option Label) → All (IsLabelOver principals) (label_of_variable label) →
        IsLabelOver principals (unwrap_or label empty_label)
    written None all = empty
    written (Some label) all = All-head (IsLabelOver principals) label [] all

-- what is known where a method begins
record AreVariablesOver (principals : Declared) (program : ProgramTree) (labels : VariableLabels)
    (causes : Trait → VarId → Option Cause) : Type 0 where
  over : (x : VarId) → IsLabelOver principals (variable_label labels x)
  told : (trait : Trait) → IsDeclaredTrait principals trait → TellsVariables trait (causes trait) labels

methods_good : (principals : Declared) (program : ProgramTree) → OverLaws principals →
    IsProgramOver principals program →
    (place : ℕ) (labels : VariableLabels) (causes : Trait → VarId → Option Cause) (methods : List MethodTree) →
    AreVariablesOver principals program labels causes → All (IsMethodOver principals) methods →
    AreAllValuesLabelled principals program labels methods →
    All (IsAskOver principals) (methods_asks principals program place labels causes methods)
methods_good principals program laws is place labels causes [] variables all known = All-nil (IsAskOver principals)
methods_good principals program laws is place labels causes (method ∷ methods) variables all known =
    let spot = method_spot principals program place labels causes method in
    let first = All-head (IsMethodOver principals) method methods all in
    let begins : IsSpotOver spot = record {
      named = record {
        declared = is.declared;
        fields = field_over principals program laws.order.empty is.fields;
        variables = variables.over;
      };
      under = first.begin;
      begins = begin_over principals program laws.order.empty is.methods;
      authority = first.authority;
      of_pc = λ trait within. where_some (has trait method.begin) (OfBegin (record { 0 = place }));
      variables = variables.told;
    } in
    let one = block_good spot laws begins method.body first.body known.0 in
    let after = spot_after spot method.body in
    All-append (IsAskOver principals) (block_asks spot method.body)
    (methods_asks principals program (place + 1) after.labels after.causes methods) one.asks
    (methods_good principals program laws is (place + 1) after.labels after.causes methods
    (record { over = one.after.named.variables; told = one.after.variables })
    (All-tail (IsMethodOver principals) method methods all) known.1)

pub program_good : (principals : Declared) (program : ProgramTree) → OverLaws principals →
    IsProgramOver principals program → All (IsAskOver principals) (program_asks principals program)
program_good principals program laws is =
    methods_good principals program laws is 0 (declared_labels program)
    (λ trait. declared_causes trait (declared_labels program)) program.methods (record {
      over = variable_over principals program laws.order.empty is.variables;
      told = λ trait within. declared_tells trait (declared_labels program);
    }) is.methods is.values
