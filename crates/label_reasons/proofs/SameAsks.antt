-- Without names and causes, what is asked for are the obligations of the program.
use Rattle.std.proofs.Common.{◌≡◌, ℕ, ◌+◌, List, [], ◌∷◌, ◌++◌, map, flat_map, refl, sym, ap, ap₂, ◌∙◌}
use Rattle.std.specs.Prelude.{Option, Some, None}
use Rattle.std.proofs.lemmas.List.{map-append}
use Rattle.std.proofs.lemmas.List.Concat.{flat_map-cons}
use Rattle.std.proofs.lemmas.Grind.{flat_map-append}
use Rattle.js_base.specs.declared.ids.VarId.{VarId}
use Rattle.js_base.specs.declared.ids.MethodId.{MethodId}
use Rattle.js_base.specs.declared.ids.StmtId.{StmtId}
use Rattle.principals.specs.ActsFor.{Declared}
use Rattle.jif_tree.specs.Trees.{ExprTree, number, local, scalar, element, inverted, negated, binary, declassified}
use Rattle.jif_tree.specs.Trees.{endorsed, BlockTree, done, set_local, set_field, set_element, branch, loop, call}
use Rattle.jif_tree.specs.Trees.{give_back, MethodTree, ProgramTree}
use Rattle.jif_tree.specs.LabelRules as rules
use Rattle.jif_tree.specs.LabelRules.{Constraint, Obligation, StatementLabels, VariableLabels, obligations_of}
use Rattle.jif_tree.specs.LabelRules.{expr_constraints, flow_of, variable_label, field_label, argument_flows}
use Rattle.jif_tree.specs.LabelRules.{result_flows, method_at, params_of, result_of, block_labels, methods_labels}
use Rattle.jif_tree.specs.LabelRules.{declared_labels, obligations}
use Rattle.label_reasons.specs.declared.reason.Trait.{Trait}
use Rattle.label_reasons.specs.declared.reason.Cause.{Cause}
use Rattle.label_reasons.specs.Asks.{StatementSpot, Ask, label_at, spot_after, spot_assigned, spot_inside, spot_with}
use Rattle.label_reasons.specs.Asks.{expr_asks}
use Rattle.label_reasons.specs.Asks.{argument_asks, result_asks, call_flows, return_flows, block_asks, method_spot}
use Rattle.label_reasons.specs.Asks.{methods_asks, program_asks, obligation_of}

-- a constraint that a statement asks for
abbrev asking : StmtId → Constraint → Obligation
asking here constraint = record { statement = here; constraint = constraint }

-- without names and causes, these are these constraints of a statement
abbrev Are : StmtId → List Ask → List Constraint → Type 0
Are here asks constraints = map obligation_of asks ≡ map (asking here) constraints

both : (here : StmtId) (first second : List Ask) (one other : List Constraint) → Are here first one →
    Are here second other → Are here (first ++ second) (one ++ other)
both here first second one other is also =
    map-append obligation_of first second ∙ ap₂ (λ xs ys. xs ++ ys) is also ∙ sym (map-append (asking here) one other)

-- A block asks for what its first statement does, and then for what is left.
abbrev statement_asks : StatementLabels → List Obligation
statement_asks one = map (λ constraint. record { statement = one.statement; constraint = constraint }) one.constraints

then_asks : (here : StmtId) (asks rest : List Ask) (constraints : List Constraint) (others : List Obligation) →
    Are here asks constraints → map obligation_of rest ≡ others →
    map obligation_of (asks ++ rest) ≡ map (asking here) constraints ++ others
then_asks here asks rest constraints others is left =
    map-append obligation_of asks rest ∙ ap₂ (λ xs ys. xs ++ ys) is left

and_asks : (first second : List Ask) (one other : List StatementLabels) →
    map obligation_of first ≡ obligations_of one → map obligation_of second ≡ obligations_of other →
    map obligation_of (first ++ second) ≡ obligations_of (one ++ other)
and_asks first second one other is also =
    map-append obligation_of first second ∙ ap₂ (λ xs ys. xs ++ ys) is also
    ∙ sym (flat_map-append statement_asks one other)

-- ---- expressions and calls

expr_same : (spot : StatementSpot) (here : StmtId) (value : ExprTree) →
    Are here (expr_asks spot here value) (expr_constraints spot.setting spot.pc spot.labels value)
expr_same spot here (number value) = refl
expr_same spot here (local x) = refl
expr_same spot here (scalar field) = refl
expr_same spot here (element field index) = expr_same spot here index
expr_same spot here (inverted operand) = expr_same spot here operand
expr_same spot here (negated operand) = expr_same spot here operand
expr_same spot here (binary operator left right) =
    both here _ _ _ _ (expr_same spot here left) (expr_same spot here right)
expr_same spot here (declassified operand label) = both here _ _ _ _ (expr_same spot here operand) refl
expr_same spot here (endorsed operand label) = both here _ _ _ _ (expr_same spot here operand) refl

exprs_same : (spot : StatementSpot) (here : StmtId) (values : List ExprTree) →
    Are here (flat_map (expr_asks spot here) values)
    (flat_map (expr_constraints spot.setting spot.pc spot.labels) values)
exprs_same spot here [] = refl
exprs_same spot here (value ∷ values) =
    rw (
      flat_map-cons (expr_asks spot here) value values,
      flat_map-cons (expr_constraints spot.setting spot.pc spot.labels) value values,
    )
    (both here _ _ _ _ (expr_same spot here value) (exprs_same spot here values))

arguments_same : (spot : StatementSpot) (here : StmtId) (method : MethodId) (place : ℕ) (values : List ExprTree)
    (params : List VarId) →
    Are here (argument_asks spot here method place values params)
    (argument_flows spot.setting spot.pc spot.labels values params)
arguments_same spot here method place [] params = refl
arguments_same spot here method place (value ∷ values) [] = refl
arguments_same spot here method place (value ∷ values) (param ∷ params) =
    let first = asking here (flow_of spot.pc (label_at spot value) (variable_label spot.labels param)) in
    ap (λ rest. first ∷ rest) (arguments_same spot here method (place + 1) values params)

result_same : (spot : StatementSpot) (here : StmtId) (method : MethodId) (result into : Option VarId) →
    Are here (result_asks spot here method result into) (result_flows spot.pc spot.labels result into)
result_same spot here method None into = refl
result_same spot here method (Some result) None = refl
result_same spot here method (Some result) (Some into) = refl

call_same : (spot : StatementSpot) (here : StmtId) (method : MethodId) (values : List ExprTree) (into : Option VarId) →
    Are here (call_flows spot here method values into)
    (rules.call_constraints spot.setting spot.pc spot.labels (method_at spot.setting.program method) values into)
call_same spot here method values into =
    let called = method_at spot.setting.program method in
    let first = asking here (rules.may_begin spot.pc (rules.begin_label called)) in
    ap (λ rest. first ∷ rest)
    (both here _ _ _ _ (arguments_same spot here method 0 values (params_of called))
    (result_same spot here method (result_of called) into))

return_same : (spot : StatementSpot) (here : StmtId) (result : Option VarId) (value : ExprTree) →
    Are here (return_flows spot here result value)
    (rules.return_flows spot.pc spot.labels result (label_at spot value))
return_same spot here None value = refl
return_same spot here (Some result) value = refl

-- ---- blocks

abbrev labels_at : StatementSpot → BlockTree → List StatementLabels
labels_at spot block = block_labels spot.setting spot.pc spot.labels block

block_same : (spot : StatementSpot) (block : BlockTree) →
    map obligation_of (block_asks spot block) ≡ obligations_of (block_labels spot.setting spot.pc spot.labels block)
block_same spot done = refl
block_same spot (set_local heading x value rest) =
    then_asks heading.id _ _ _ _ (both heading.id _ _ _ _ (expr_same spot heading.id value) refl)
    (block_same (spot_assigned spot heading.id x value) rest)
block_same spot (set_field heading field value rest) =
    then_asks heading.id _ _ _ _ (both heading.id _ _ _ _ (expr_same spot heading.id value) refl) (block_same spot rest)
block_same spot (set_element heading field index value rest) =
    then_asks heading.id _ _ _ _ (both heading.id _ _ _ _ (both heading.id _ _ _ _ (expr_same spot heading.id index)
    (expr_same spot heading.id value)) refl) (block_same spot rest)
block_same spot (branch heading guard first second rest) =
    let inside = spot_inside spot heading.id guard in
    let between = spot_after inside first in
    let after = spot_with spot (spot_after between second) in
    then_asks heading.id _ _ _ _ (expr_same spot heading.id guard)
    (and_asks _ _ (labels_at inside first ++ labels_at between second) (labels_at after rest)
    (and_asks _ _ (labels_at inside first) (labels_at between second) (block_same inside first)
    (block_same between second)) (block_same after rest))
block_same spot (loop heading guard body rest) =
    let inside = spot_inside spot heading.id guard in
    let after = spot_with spot (spot_after inside body) in
    then_asks heading.id _ _ _ _ (both heading.id _ _ _ _ (expr_same spot heading.id guard)
    (expr_same inside heading.id guard))
    (and_asks _ _ (labels_at inside body) (labels_at after rest) (block_same inside body) (block_same after rest))
block_same spot (call heading site method arguments into rest) =
    then_asks heading.id _ _ _ _ (both heading.id _ _ _ _ (exprs_same spot heading.id arguments)
    (call_same spot heading.id method arguments into)) (block_same spot rest)
block_same spot (give_back heading value rest) =
    then_asks heading.id _ _ _ _ (both heading.id _ _ _ _ (expr_same spot heading.id value)
    (return_same spot heading.id spot.setting.result value)) (block_same spot rest)

methods_same : (principals : Declared) (program : ProgramTree) (place : ℕ) (labels : VariableLabels)
    (causes : Trait → VarId → Option Cause) (methods : List MethodTree) →
    map obligation_of (methods_asks principals program place labels causes methods)
    ≡ obligations_of (methods_labels principals program labels methods)
methods_same principals program place labels causes [] = refl
methods_same principals program place labels causes (method ∷ methods) =
    let spot = method_spot principals program place labels causes method in
    let after = spot_after spot method.body in
    and_asks _ _ (rules.method_labels spot.setting labels method)
    (methods_labels principals program after.labels methods) (block_same spot method.body)
    (methods_same principals program (place + 1) after.labels after.causes methods)

pub program_same : (principals : Declared) (program : ProgramTree) →
    map obligation_of (program_asks principals program) ≡ obligations principals program
program_same principals program = methods_same principals program 0 (declared_labels program) _ program.methods
