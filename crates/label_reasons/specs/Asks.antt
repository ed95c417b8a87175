-- What the statements of a program ask of labels, each with what it names and with what brings a trait into the label
-- that is asked about.
--
-- The walk is that of the rules of labels: without names and causes these are the obligations of the program, in the
-- same order. A walk over spots beside the statements, from which causes are looked for later, would have to find the
-- asked expression in the statement once more. Here each constraint is made together with its cause.
use Rattle.std.specs.Prelude.{ℕ, ◌+◌, List, [], ◌∷◌, ◌++◌, Option, Some, None}
use Rattle.std.specs.List.{flat_map}
use Rattle.js_base.specs.declared.ids.FieldId.{FieldId}
use Rattle.js_base.specs.declared.ids.VarId.{VarId}
use Rattle.js_base.specs.declared.ids.MethodId.{MethodId}
use Rattle.js_base.specs.declared.ids.StmtId.{StmtId}
use Rattle.principals.specs.ActsFor.{Declared}
use Rattle.label_lattice.specs.declared.label.Label.{Label}
use Rattle.label_lattice.specs.Lattice.{join_of}
use Rattle.jif_tree.specs.Trees.{ExprTree, number, local, scalar, element, inverted, negated, binary, declassified}
use Rattle.jif_tree.specs.Trees.{endorsed, BlockTree, done, set_local, set_field, set_element, branch, loop, call}
use Rattle.jif_tree.specs.Trees.{give_back, MethodTree, ProgramTree}
use Rattle.jif_tree.specs.LabelRules.{MethodSetting, VariableLabels, Constraint, may_release, trusted, may_endorse}
use Rattle.jif_tree.specs.LabelRules.{may_begin, Obligation, expr_label, variable_label, field_label, flow_of, guarded}
use Rattle.jif_tree.specs.LabelRules.{labels_after, labels_after_assignment, method_at, begin_label, params_of}
use Rattle.jif_tree.specs.LabelRules.{result_of, setting_of, declared_labels}
use Rattle.label_reasons.specs.declared.reason.Trait.{Trait}
use Rattle.label_reasons.specs.declared.reason.Cause.{Cause}
use Rattle.label_reasons.specs.declared.reason.Source.TheVariants.{OfVariable}
use Rattle.label_reasons.specs.declared.reason.Wanted.{Wanted}
use Rattle.label_reasons.specs.declared.reason.Wanted.TheVariants.{KeptInField, KeptInElement, KeptInLocal, Given}
use Rattle.label_reasons.specs.declared.reason.Wanted.TheVariants.{ResultKept, GivenBack, Begun, Released}
use Rattle.label_reasons.specs.declared.reason.Wanted.TheVariants.{ReleaseTrusted, Endorsed}
use Rattle.label_reasons.specs.Traits.{has}
use Rattle.label_reasons.specs.Causes.{or_else, cause_where, expr_cause, begin_cause, declared_causes, guarded_cause}
use Rattle.label_reasons.specs.Causes.{causes_after, causes_after_assignment}

-- where a statement stands: the program label and the labels of variables, each with what brings a trait in
pub record StatementSpot : Type 0 where
  pub setting : MethodSetting
  pub pc : Label
  pub of_pc : Trait → Option Cause
  pub labels : VariableLabels
  pub causes : Trait → VarId → Option Cause

-- what is asked for, by which statement, and what brings a trait into the label that is asked about
pub record Ask : Type 0 where
  pub statement : StmtId
  pub wanted : Wanted
  pub constraint : Constraint
  pub cause : Trait → Option Cause

-- ---- spots

abbrev pub label_at : StatementSpot → ExprTree → Label
label_at spot value = expr_label spot.setting spot.pc spot.labels value

abbrev pub cause_at : StatementSpot → StmtId → ExprTree → Trait → Option Cause
cause_at spot here value trait = expr_cause trait spot.setting here (spot.of_pc trait) (spot.causes trait) value

-- behind a block
abbrev pub spot_after : StatementSpot → BlockTree → StatementSpot
spot_after spot block = record spot {
  labels = labels_after spot.setting spot.pc spot.labels block;
  causes = λ trait. causes_after trait spot.setting spot.pc (spot.of_pc trait) spot.labels (spot.causes trait) block;
}

-- behind an assignment to a variable
abbrev pub spot_assigned : StatementSpot → StmtId → VarId → ExprTree → StatementSpot
spot_assigned spot here x value = record spot {
  labels = labels_after_assignment spot.labels x (join_of (label_at spot value) spot.pc);
  causes = λ trait. causes_after_assignment spot.labels (spot.causes trait) x here
      (or_else (cause_at spot here value trait) (spot.of_pc trait));
}

-- inside a branch or a loop
abbrev pub spot_inside : StatementSpot → StmtId → ExprTree → StatementSpot
spot_inside spot here guard = record spot {
  pc = guarded spot.setting spot.pc spot.labels guard;
  of_pc = λ trait. guarded_cause trait spot.setting here (spot.of_pc trait) (spot.causes trait) guard;
}

-- the labels and causes of variables at the second spot, and the program label of the first
abbrev pub spot_with : StatementSpot → StatementSpot → StatementSpot
spot_with spot inner = record spot { labels = inner.labels; causes = inner.causes }

-- ---- expressions

-- to release a value, and to be trusted with it
abbrev pub release_ask : StatementSpot → StmtId → ExprTree → Label → Ask
release_ask spot here operand label = record {
  statement = here;
  wanted = Released;
  constraint = may_release spot.setting.authority (label_at spot operand) label;
  cause = cause_at spot here operand;
}

abbrev pub trust_ask : StatementSpot → StmtId → Ask
trust_ask spot here = record {
  statement = here;
  wanted = ReleaseTrusted;
  constraint = trusted spot.setting.authority spot.pc;
  cause = spot.of_pc;
}

abbrev pub endorse_ask : StatementSpot → StmtId → ExprTree → Label → Ask
endorse_ask spot here operand label = record {
  statement = here;
  wanted = Endorsed;
  constraint = may_endorse spot.setting.authority (label_at spot operand) label;
  cause = cause_at spot here operand;
}

-- what the expressions in an expression ask for, inner before outer and from the left
abbrev pub expr_asks : StatementSpot → StmtId → ExprTree → List Ask
expr_asks spot here (number value) = []
expr_asks spot here (local x) = []
expr_asks spot here (scalar field) = []
expr_asks spot here (element field index) = expr_asks spot here index
expr_asks spot here (inverted operand) = expr_asks spot here operand
expr_asks spot here (negated operand) = expr_asks spot here operand
expr_asks spot here (binary operator left right) = expr_asks spot here left ++ expr_asks spot here right
expr_asks spot here (declassified operand label) =
    expr_asks spot here operand ++ release_ask spot here operand label ∷ trust_ask spot here ∷ []
expr_asks spot here (endorsed operand label) = expr_asks spot here operand ++ endorse_ask spot here operand label ∷ []

-- ---- flows

-- the flow of a value's label, joined with the program label
abbrev pub flow_ask : StatementSpot → StmtId → Wanted → Label → (Trait → Option Cause) → Label → Ask
flow_ask spot here wanted from cause to = record {
  statement = here;
  wanted = wanted;
  constraint = flow_of spot.pc from to;
  cause = λ trait. or_else (cause trait) (spot.of_pc trait);
}

abbrev pub value_ask : StatementSpot → StmtId → Wanted → ExprTree → Label → Ask
value_ask spot here wanted value to = flow_ask spot here wanted (label_at spot value) (cause_at spot here value) to

-- the flow of a value, behind what it asks for itself
abbrev pub value_asks : StatementSpot → StmtId → Wanted → ExprTree → Label → List Ask
value_asks spot here wanted value to = expr_asks spot here value ++ value_ask spot here wanted value to ∷ []

-- the flow of an element of an array, whose index comes before its value
abbrev pub element_ask : StatementSpot → StmtId → FieldId → ExprTree → ExprTree → Ask
element_ask spot here field index value =
    flow_ask spot here (KeptInElement field) (join_of (label_at spot index) (label_at spot value))
    (λ trait. or_else (cause_at spot here index trait) (cause_at spot here value trait))
    (field_label spot.setting.program field)

abbrev pub element_asks : StatementSpot → StmtId → FieldId → ExprTree → ExprTree → List Ask
element_asks spot here field index value =
    expr_asks spot here index ++ expr_asks spot here value ++ element_ask spot here field index value ∷ []

-- the arguments from a place on
abbrev pub argument_asks : StatementSpot → StmtId → MethodId → ℕ → List ExprTree → List VarId → List Ask
argument_asks spot here method place [] params = []
argument_asks spot here method place (argument ∷ arguments) [] = []
argument_asks spot here method place (argument ∷ arguments) (param ∷ params) =
    value_ask spot here (Given place param method) argument (variable_label spot.labels param)
    ∷ argument_asks spot here method (place + 1) arguments params

-- A result is declared with a label, so it is its own source.
abbrev pub result_ask : StatementSpot → StmtId → MethodId → VarId → VarId → Ask
result_ask spot here method result into =
    flow_ask spot here (ResultKept method into) (variable_label spot.labels result)
    (λ trait. cause_where (has trait (variable_label spot.labels result)) (OfVariable result))
    (variable_label spot.labels into)

abbrev pub result_asks : StatementSpot → StmtId → MethodId → Option VarId → Option VarId → List Ask
result_asks spot here method (Some result) (Some into) = result_ask spot here method result into ∷ []
result_asks spot here method result into = []

abbrev pub begin_ask : StatementSpot → StmtId → MethodId → Ask
begin_ask spot here method = record {
  statement = here;
  wanted = Begun method;
  constraint = may_begin spot.pc (begin_label (method_at spot.setting.program method));
  cause = spot.of_pc;
}

-- what a call asks for behind what its arguments ask for themselves
abbrev pub call_flows : StatementSpot → StmtId → MethodId → List ExprTree → Option VarId → List Ask
call_flows spot here method arguments into =
    let called = method_at spot.setting.program method in
    begin_ask spot here method ∷ argument_asks spot here method 0 arguments (params_of called)
    ++ result_asks spot here method (result_of called) into

abbrev pub call_asks : StatementSpot → StmtId → MethodId → List ExprTree → Option VarId → List Ask
call_asks spot here method arguments into =
    flat_map (expr_asks spot here) arguments ++ call_flows spot here method arguments into

abbrev pub return_flows : StatementSpot → StmtId → Option VarId → ExprTree → List Ask
return_flows spot here None value = []
return_flows spot here (Some result) value =
    value_ask spot here (GivenBack result) value (variable_label spot.labels result) ∷ []

abbrev pub return_asks : StatementSpot → StmtId → ExprTree → List Ask
return_asks spot here value = expr_asks spot here value ++ return_flows spot here spot.setting.result value

-- ---- blocks

abbrev pub block_asks : StatementSpot → BlockTree → List Ask
block_asks spot done = []
block_asks spot (set_local heading x value rest) =
    let after = spot_assigned spot heading.id x value in
    value_asks spot heading.id (KeptInLocal x) value (variable_label after.labels x) ++ block_asks after rest
block_asks spot (set_field heading field value rest) =
    value_asks spot heading.id (KeptInField field) value (field_label spot.setting.program field)
    ++ block_asks spot rest
block_asks spot (set_element heading field index value rest) =
    element_asks spot heading.id field index value ++ block_asks spot rest
block_asks spot (branch heading guard first second rest) =
    let inside = spot_inside spot heading.id guard in
    let between = spot_after inside first in
    expr_asks spot heading.id guard ++ (block_asks inside first ++ block_asks between second
    ++ block_asks (spot_with spot (spot_after between second)) rest)
block_asks spot (loop heading guard body rest) =
    let inside = spot_inside spot heading.id guard in
    expr_asks spot heading.id guard ++ expr_asks inside heading.id guard ++ (block_asks inside body
    ++ block_asks (spot_with spot (spot_after inside body)) rest)
block_asks spot (call heading site method arguments into rest) =
    call_asks spot heading.id method arguments into ++ block_asks spot rest
block_asks spot (give_back heading value rest) = return_asks spot heading.id value ++ block_asks spot rest

-- ---- methods and programs

-- Where the body of a method begins. The number of a method is its place.
abbrev pub method_spot : Declared → ProgramTree → ℕ → VariableLabels → (Trait → VarId → Option Cause) → MethodTree →
    StatementSpot
method_spot principals program place labels causes method = record {
  setting = setting_of principals program method;
  pc = method.begin;
  of_pc = λ trait. begin_cause trait (record { 0 = place }) method.begin;
  labels = labels;
  causes = causes;
}

abbrev pub methods_asks : Declared → ProgramTree → ℕ → VariableLabels → (Trait → VarId → Option Cause) →
    List MethodTree → List Ask
methods_asks principals program place labels causes [] = []
methods_asks principals program place labels causes (method ∷ methods) =
    let spot = method_spot principals program place labels causes method in
    let after = spot_after spot method.body in
    block_asks spot method.body ++ methods_asks principals program (place + 1) after.labels after.causes methods

-- all that is asked for, in the order in which a refusal looks at it
abbrev pub program_asks : Declared → ProgramTree → List Ask
program_asks principals program =
    methods_asks principals program 0 (declared_labels program)
    (λ trait. declared_causes trait (declared_labels program)) program.methods

-- an ask without its names and its cause
abbrev pub obligation_of : Ask → Obligation
obligation_of ask = record { statement = ask.statement; constraint = ask.constraint }
