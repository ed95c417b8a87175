-- What the arguments of a call ask for.
use Rattle.std.proofs.Common.{◌≡◌, ◌∙◌, ℕ, suc, ◌<◌, ◌≤◌, ◌-◌, ◌⊎◌, inl, inr, sym, ap, subst, List, [], ◌∷◌, ◌++◌}
use Rattle.std.proofs.Common.{map, refl, take, drop, length, get_or, arith}
use Rattle.std.specs.Prelude.{Option, Result, OnOk, IfErr}
use Rattle.std.specs.List.{flat_map}
use Rattle.std.proofs.lemmas.Grind.{flat_map-append}
use Rattle.std.proofs.lemmas.List.{map-append, take_all, take-append-drop}
use Rattle.std.proofs.Math.Seq.{drop-cons}
use Rattle.js_base.specs.declared.ids.StmtId.{StmtId}
use Rattle.js_base.specs.declared.ids.VarId.{VarId}
use Rattle.principals.specs.ActsFor.{Declared}
use Rattle.label_lattice.specs.declared.label.Label.{Label}
use Rattle.jif_tree.specs.declared.program.Expr.{Expr}
use Rattle.jif_tree.specs.Trees.{ExprTree, MethodTree, expr_tree}
use Rattle.jif_tree.specs.LabelRules.{Constraint, MethodSetting, VariableLabels, expr_label, flow_of, variable_label}
use Rattle.jif_tree.specs.LabelRules.{argument_flows, expr_constraints, call_constraints, may_begin, begin_label}
use Rattle.jif_tree.specs.LabelRules.{params_of, result_of, result_flows}
use Rattle.label_check.specs.declared.check_error.CheckError.{CheckError}
use Rattle.label_check.specs.Parts.{asked, AreMet, RefusesFor, flows_to_params}
use Rattle.label_check.proofs.Asked.{none_met, asked_met, asked_before, asked_behind, both_met, refused_before}
use Rattle.label_check.proofs.Asked.{refused_behind}
use Rattle.label_check.proofs.Exits.{then_met, then_refused, then_all_met, then_all_refused}

-- what these expressions ask for, each as the function says
abbrev pub asked_for_all : (ExprTree → List Constraint) → List Expr → List Constraint
asked_for_all asks args = flat_map asks (map expr_tree args)

asked_for_both : (asks : ExprTree → List Constraint) (first second : List Expr) →
    asked_for_all asks (first ++ second) ≡ asked_for_all asks first ++ asked_for_all asks second
asked_for_both asks first second =
    ap (flat_map asks) (map-append expr_tree first second)
    ∙ flat_map-append asks (map expr_tree first) (map expr_tree second)

split_at : (args : List Expr) (place : ℕ) (d : Expr) → place < length args →
    args ≡ take place args ++ get_or args place d ∷ drop (suc place) args
split_at args place d within =
    sym (take-append-drop place args) ∙ ap (λ all. take place args ++ all) (drop-cons args place d within)

pub arg_refused : {principals : Declared} (statement : StmtId) (asks : ExprTree → List Constraint) (args : List Expr)
    (place : ℕ) (arg : Expr) {why : CheckError} → place < length args → arg ≡ get_or args place arg →
    AreMet principals (asked statement (asked_for_all asks (take place args))) →
    RefusesFor principals (asked statement (asks (expr_tree arg))) why →
    RefusesFor principals (asked statement (asked_for_all asks args)) why
arg_refused {principals} statement asks args place d {why} within is so_far next =
    let Q : List Constraint → Type 0 = λ all. RefusesFor principals (asked statement all) why in
    subst Q (sym (ap (asked_for_all asks) (split_at args place d within)
    ∙ asked_for_both asks (take place args) (get_or args place d ∷ drop (suc place) args)))
    (asked_behind statement (asked_for_all asks (take place args))
    (asked_for_all asks (get_or args place d ∷ drop (suc place) args)) so_far
    (asked_before statement (asks (expr_tree (get_or args place d))) (asked_for_all asks (drop (suc place) args))
    (subst (λ (arg : Expr). RefusesFor principals (asked statement (asks (expr_tree arg))) why) is next)))

-- ---- flows to parameters

-- What is left of the flows is met, or refused, only where all of them are.
pub record FlowsFrom (statement : StmtId) (all left : List Constraint) : Type 0 where
  pub met : (principals : Declared) → AreMet principals (asked statement left) →
      AreMet principals (asked statement all)
  pub refused : (principals : Declared) (why : CheckError) → RefusesFor principals (asked statement left) why →
      RefusesFor principals (asked statement all) why

pub all_left : (statement : StmtId) (all : List Constraint) → FlowsFrom statement all all
all_left statement all = record { met = λ principals met. met; refused = λ principals why refused. refused }

-- one more is met
pub one_less : {statement : StmtId} {all left : List Constraint} (one : Constraint) →
    FlowsFrom statement all (one ∷ left) → ((principals : Declared) → AreMet principals (asked statement (one ∷ []))) →
    FlowsFrom statement all left
one_less {statement} {all} {left} one from met = record {
  met = λ principals others. from.met principals (both_met (met principals) others);
  refused = λ principals why refused. from.refused principals why (refused_behind (met principals) refused);
}

-- the next is refused
pub next_refused : {statement : StmtId} {all left : List Constraint} (one : Constraint) {why : CheckError} →
    FlowsFrom statement all (one ∷ left) →
    ((principals : Declared) → RefusesFor principals (asked statement (one ∷ [])) why) →
    (principals : Declared) → RefusesFor principals (asked statement all) why
next_refused {statement} {all} {left} one {why} from refused principals =
    from.refused principals why (refused_before (asked statement left) (refused principals))

-- the first flow of those that are left
next_flow : (pc : Label) (labels : VariableLabels) (given : List Label) (params : List VarId) (d : Label) (e : VarId) →
    1 ≤ length given → 1 ≤ length params →
    flows_to_params pc labels given params
    ≡ flow_of pc (get_or given 0 d) (variable_label labels (get_or params 0 e))
    ∷ flows_to_params pc labels (take (length given - 1) (drop 1 given)) (take (length params - 1) (drop 1 params))
next_flow pc labels [] params d e one also = absurd (omega arith)
next_flow pc labels (from ∷ given) [] d e one also = absurd (omega arith)
next_flow pc labels (from ∷ given) (param ∷ params) d e one also =
    rw (
      take_all (length (from ∷ given) - 1) given (omega arith),
      take_all (length (param ∷ params) - 1) params
          (omega arith),
    )

pub flows_less : (statement : StmtId) (pc : Label) (labels : VariableLabels) (all : List Constraint)
    (given : List Label) (params : List VarId) (d : Label) (e : VarId) → 1 ≤ length given → 1 ≤ length params →
    FlowsFrom statement all (flows_to_params pc labels given params) →
    ((principals : Declared) → AreMet principals
    (asked statement (flow_of pc (get_or given 0 d) (variable_label labels (get_or params 0 e)) ∷ []))) →
    FlowsFrom statement all
    (flows_to_params pc labels (take (length given - 1) (drop 1 given)) (take (length params - 1) (drop 1 params)))
flows_less statement pc labels all given params d e one also from met =
    one_less (flow_of pc (get_or given 0 d) (variable_label labels (get_or params 0 e)))
    (subst (FlowsFrom statement all) (next_flow pc labels given params d e one also) from) met

pub flows_refused : (statement : StmtId) (pc : Label) (labels : VariableLabels) (all : List Constraint)
    (given : List Label) (params : List VarId) (d : Label) (e : VarId) {why : CheckError} → 1 ≤ length given →
    1 ≤ length params → FlowsFrom statement all (flows_to_params pc labels given params) →
    ((principals : Declared) → RefusesFor principals
    (asked statement (flow_of pc (get_or given 0 d) (variable_label labels (get_or params 0 e)) ∷ [])) why) →
    (principals : Declared) → RefusesFor principals (asked statement all) why
flows_refused statement pc labels all given params d e one also from refused =
    next_refused (flow_of pc (get_or given 0 d) (variable_label labels (get_or params 0 e)))
    (subst (FlowsFrom statement all) (next_flow pc labels given params d e one also) from) refused

-- the flows of arguments go by their labels
pub flows_by_labels : (setting : MethodSetting) (pc : Label) (labels : VariableLabels) (arguments : List ExprTree)
    (params : List VarId) → argument_flows setting pc labels arguments params
    ≡ flows_to_params pc labels (map (expr_label setting pc labels) arguments) params
flows_by_labels setting pc labels [] params = refl
flows_by_labels setting pc labels (argument ∷ arguments) [] = refl
flows_by_labels setting pc labels (argument ∷ arguments) (param ∷ params) =
    ap (λ flows. flow_of pc (expr_label setting pc labels argument) (variable_label labels param) ∷ flows)
    (flows_by_labels setting pc labels arguments params)

no_labels : (pc : Label) (labels : VariableLabels) (given : List Label) (params : List VarId) → length given < 1 →
    flows_to_params pc labels given params ≡ []
no_labels pc labels [] params none = refl
no_labels pc labels (label ∷ given) params none = absurd (omega arith)

no_params : (pc : Label) (labels : VariableLabels) (given : List Label) (params : List VarId) → length params < 1 →
    flows_to_params pc labels given params ≡ []
no_params pc labels [] params none = refl
no_params pc labels (label ∷ given) [] none = refl
no_params pc labels (label ∷ given) (param ∷ params) none = absurd (omega arith)

-- nothing is left to flow
pub flows_end : {statement : StmtId} {all left : List Constraint} → FlowsFrom statement all left → left ≡ [] →
    (principals : Declared) → AreMet principals (asked statement all)
flows_end {statement} {all} {left} from none principals =
    from.met principals
    (subst (λ (flows : List Constraint). AreMet principals (asked statement flows)) (sym none) (none_met principals))

pub labels_end : (statement : StmtId) (pc : Label) (labels : VariableLabels) (all : List Constraint)
    (given : List Label) (params : List VarId) → FlowsFrom statement all (flows_to_params pc labels given params) →
    (length given < 1) ⊎ (length params < 1) → (principals : Declared) → AreMet principals (asked statement all)
labels_end statement pc labels all given params from (inl none) = flows_end from (no_labels pc labels given params none)
labels_end statement pc labels all given params from (inr none) = flows_end from (no_params pc labels given params none)

-- ---- calls

-- what a call asks for
abbrev pub call_asks : MethodSetting → Label → VariableLabels → Option MethodTree → List ExprTree → Option VarId →
    List Constraint
call_asks setting pc labels called trees into =
    flat_map (expr_constraints setting pc labels) trees ++ call_constraints setting pc labels called trees into

pub begin_refused : {principals : Declared} (statement : StmtId) (setting : MethodSetting) (pc : Label)
    (labels : VariableLabels) (called : Option MethodTree) (trees : List ExprTree) (into : Option VarId)
    {why : CheckError} →
    AreMet principals (asked statement (flat_map (expr_constraints setting pc labels) trees)) →
    RefusesFor principals (asked statement (may_begin pc (begin_label called) ∷ [])) why →
    RefusesFor principals (asked statement (call_asks setting pc labels called trees into)) why
begin_refused statement setting pc labels called trees into met refused =
    let flows = argument_flows setting pc labels trees (params_of called) in
    asked_behind statement (flat_map (expr_constraints setting pc labels) trees)
    (call_constraints setting pc labels called trees into) met
    (asked_before statement (may_begin pc (begin_label called) ∷ flows)
    (result_flows pc labels (result_of called) into)
    (asked_before statement (may_begin pc (begin_label called) ∷ []) flows refused))

pub argument_refused : {principals : Declared} (statement : StmtId) (setting : MethodSetting) (pc : Label)
    (labels : VariableLabels) (called : Option MethodTree) (trees : List ExprTree) (into : Option VarId)
    {why : CheckError} →
    AreMet principals (asked statement (flat_map (expr_constraints setting pc labels) trees)) →
    AreMet principals (asked statement (may_begin pc (begin_label called) ∷ [])) →
    RefusesFor principals (asked statement
    (flows_to_params pc labels (map (expr_label setting pc labels) trees) (params_of called))) why →
    RefusesFor principals (asked statement (call_asks setting pc labels called trees into)) why
argument_refused {principals} statement setting pc labels called trees into {why} met begins refused =
    let flows = argument_flows setting pc labels trees (params_of called) in
    asked_behind statement (flat_map (expr_constraints setting pc labels) trees)
    (call_constraints setting pc labels called trees into) met
    (asked_before statement (may_begin pc (begin_label called) ∷ flows)
    (result_flows pc labels (result_of called) into)
    (asked_behind statement (may_begin pc (begin_label called) ∷ []) flows begins
    (subst (λ (all : List Constraint). RefusesFor principals (asked statement all) why)
    (sym (flows_by_labels setting pc labels trees (params_of called))) refused)))

-- the begin label and the flows of the arguments are in order
call_begun : (statement : StmtId) (setting : MethodSetting) (pc : Label) (labels : VariableLabels)
    (called : Option MethodTree) (trees : List ExprTree) →
    ((others : Declared) → AreMet others (asked statement (may_begin pc (begin_label called) ∷ []))) →
    ((others : Declared) → AreMet others (asked statement
    (flows_to_params pc labels (map (expr_label setting pc labels) trees) (params_of called)))) →
    (others : Declared) → AreMet others (asked statement
    (may_begin pc (begin_label called) ∷ argument_flows setting pc labels trees (params_of called)))
call_begun statement setting pc labels called trees begins flow others =
    asked_met statement (may_begin pc (begin_label called) ∷ [])
    (argument_flows setting pc labels trees (params_of called)) (begins others)
    (subst (λ (all : List Constraint). AreMet others (asked statement all))
    (sym (flows_by_labels setting pc labels trees (params_of called))) (flow others))

pub call_met : {T : Type 0} {principals : Declared} (statement : StmtId) (setting : MethodSetting) (pc : Label)
    (labels : VariableLabels) (called : Option MethodTree) (trees : List ExprTree) (into : Option VarId)
    (result : Result T CheckError) →
    AreMet principals (asked statement (flat_map (expr_constraints setting pc labels) trees)) →
    ((others : Declared) → AreMet others (asked statement (may_begin pc (begin_label called) ∷ []))) →
    ((others : Declared) → AreMet others (asked statement
    (flows_to_params pc labels (map (expr_label setting pc labels) trees) (params_of called)))) →
    OnOk result ((others : Declared) →
    AreMet others (asked statement (result_flows pc labels (result_of called) into))) →
    OnOk result (AreMet principals (asked statement (call_asks setting pc labels called trees into)))
call_met statement setting pc labels called trees into result met begins flow last =
    then_met statement (flat_map (expr_constraints setting pc labels) trees)
    (call_constraints setting pc labels called trees into) result met
    (then_all_met statement
    (may_begin pc (begin_label called) ∷ argument_flows setting pc labels trees (params_of called))
    (result_flows pc labels (result_of called) into) result
    (call_begun statement setting pc labels called trees begins flow) last)

pub call_refused : {T : Type 0} {principals : Declared} (statement : StmtId) (setting : MethodSetting) (pc : Label)
    (labels : VariableLabels) (called : Option MethodTree) (trees : List ExprTree) (into : Option VarId)
    (result : Result T CheckError) →
    AreMet principals (asked statement (flat_map (expr_constraints setting pc labels) trees)) →
    ((others : Declared) → AreMet others (asked statement (may_begin pc (begin_label called) ∷ []))) →
    ((others : Declared) → AreMet others (asked statement
    (flows_to_params pc labels (map (expr_label setting pc labels) trees) (params_of called)))) →
    IfErr result (λ why. (others : Declared) →
    RefusesFor others (asked statement (result_flows pc labels (result_of called) into)) why) →
    IfErr result (RefusesFor principals (asked statement (call_asks setting pc labels called trees into)))
call_refused statement setting pc labels called trees into result met begins flow last =
    then_refused statement (flat_map (expr_constraints setting pc labels) trees)
    (call_constraints setting pc labels called trees into) result met
    (then_all_refused statement
    (may_begin pc (begin_label called) ∷ argument_flows setting pc labels trees (params_of called))
    (result_flows pc labels (result_of called) into) result
    (call_begun statement setting pc labels called trees begins flow) last)
