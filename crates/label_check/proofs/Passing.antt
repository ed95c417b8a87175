-- What the statements of a block pass on.
use Rattle.std.proofs.Common.{◌≡◌, ◌∙◌, sym, ap, subst, List, [], ◌∷◌, ◌++◌, refl, append_assoc, append-nil}
use Rattle.std.specs.Prelude.{Result, Ok, Err, IfErr}
use Rattle.std.specs.Result.{IsErr, IsErrAnd}
use Rattle.std.proofs.lemmas.Grind.{flat_map-append}
use Rattle.std.proofs.lemmas.List.{map-append}
use Rattle.principals.specs.ActsFor.{Declared}
use Rattle.label_lattice.specs.declared.label.Label.{Label}
use Rattle.jif_tree.specs.Trees.{ExprTree, Heading, BlockTree, branch, loop, MethodTree, ProgramTree}
use Rattle.jif_tree.specs.LabelRules.{MethodSetting, VariableLabels, StatementLabels, Obligation}
use Rattle.jif_tree.specs.LabelRules.{labels_after, block_labels, obligations_of, guarded, expr_constraints}
use Rattle.jif_tree.specs.LabelRules.{part_labels, setting_of, method_labels, methods_labels}
use Rattle.label_check.specs.declared.check_error.CheckError.{CheckError}
use Rattle.label_check.specs.Parts.{asked, AreMet, RefusesFor, PassesStatements, pcs_of}
use Rattle.label_check.proofs.Asked.{none_met, both_met, refused_before, refused_behind}

-- the error is handed on, whatever follows
pub handed_on_rest : {T X : Type 0} {principals : Declared} (all : X → List Obligation) {why : CheckError}
    (result : Result T CheckError) → IsErr result × IsErrAnd result (λ other. other ≡ why) →
    ((rest : X) → RefusesFor principals (all rest) why) →
    IfErr result (λ other. (rest : X) → RefusesFor principals (all rest) other)
handed_on_rest all (Ok value) is refused = absurd is.1
handed_on_rest {X = X} {principals = principals} all (Err other) is refused =
    let Q : CheckError → Type 0 = λ error. (rest : X) → RefusesFor principals (all rest) error in
    subst Q (sym is.1) refused

-- a refusal of a part is one of the whole, whatever follows
pub refused_for_rest : {T X : Type 0} {principals : Declared} {part : List Obligation}
    (all : X → List Obligation) (result : Result T CheckError) →
    ((why : CheckError) → RefusesFor principals part why → (rest : X) → RefusesFor principals (all rest) why) →
    IfErr result (RefusesFor principals part) →
    IfErr result (λ why. (rest : X) → RefusesFor principals (all rest) why)
refused_for_rest all (Ok value) larger refused = tt
refused_for_rest all (Err why) larger refused = larger why refused

-- ---- obligations of parts

pub obligations_of_both : (first second : List StatementLabels) →
    obligations_of (first ++ second) ≡ obligations_of first ++ obligations_of second
obligations_of_both first second =
    flat_map-append (λ one. asked one.statement one.constraints) first second

pcs_of_both : (first second : List StatementLabels) → pcs_of (first ++ second) ≡ pcs_of first ++ pcs_of second
pcs_of_both first second = map-append (λ one. one.pc) first second

-- statements up to their end ask for nothing that is not met
pub all_met : {principals : Declared} {pcs pcs_behind : List Label} {labels labels_behind : VariableLabels}
    {all : List StatementLabels} → PassesStatements principals pcs labels all pcs_behind labels_behind [] →
    AreMet principals (obligations_of all)
all_met {principals} passes =
    subst (AreMet principals) (sym (passes.place ∙ append-nil passes.asks)) passes.met

-- ---- passing on

pub passes_none : (principals : Declared) (pcs : List Label) (labels : VariableLabels) (all : List StatementLabels) →
    PassesStatements principals pcs labels all pcs labels all
passes_none principals pcs labels all =
    record { same_pcs = refl; same_labels = refl; asks = []; place = refl; met = none_met principals }

pub passes_one : {principals : Declared} (pcs : List Label) (labels : VariableLabels) (one : StatementLabels)
    (rest : List StatementLabels) → AreMet principals (asked one.statement one.constraints) →
    PassesStatements principals pcs labels (one ∷ rest) (pcs ++ one.pc ∷ []) labels rest
passes_one pcs labels one rest met = record {
  same_pcs = sym (append_assoc pcs (one.pc ∷ []) (pcs_of rest));
  same_labels = refl;
  asks = asked one.statement one.constraints;
  place = refl;
  met = met;
}

pub passes_on : {principals : Declared} {pcs pcs_between pcs_behind : List Label}
    {labels labels_between labels_behind : VariableLabels} {all between left : List StatementLabels} →
    PassesStatements principals pcs labels all pcs_between labels_between between →
    PassesStatements principals pcs_between labels_between between pcs_behind labels_behind left →
    PassesStatements principals pcs labels all pcs_behind labels_behind left
passes_on {left = left} first second = record {
  same_pcs = first.same_pcs ∙ second.same_pcs;
  same_labels = first.same_labels ∙ second.same_labels;
  asks = first.asks ++ second.asks;
  place = first.place ∙ ap (λ all. first.asks ++ all) second.place
      ∙ sym (append_assoc first.asks second.asks (obligations_of left));
  met = both_met first.met second.met;
}

-- statements up to their end, before others
pub passes_before : {principals : Declared} {pcs pcs_behind : List Label} {labels labels_behind : VariableLabels}
    {all : List StatementLabels} (end : VariableLabels) (others : List StatementLabels) →
    PassesStatements principals pcs labels all pcs_behind labels_behind [] →
    PassesStatements principals pcs end (all ++ others) pcs_behind end others
passes_before {pcs = pcs} {pcs_behind = pcs_behind} {all = all} end others passes = record {
  same_pcs = ap (λ labels. pcs ++ labels) (pcs_of_both all others) ∙ sym (append_assoc pcs (pcs_of all) (pcs_of others))
      ∙ ap (λ labels. labels ++ pcs_of others) (passes.same_pcs ∙ append-nil pcs_behind);
  same_labels = refl;
  asks = obligations_of all;
  place = obligations_of_both all others;
  met = all_met passes;
}

-- a statement with a block behind it
pub passes_block : {principals : Declared} {pcs pcs_behind : List Label} {labels labels_behind : VariableLabels}
    (one : StatementLabels) (block others : List StatementLabels) (end : VariableLabels) →
    AreMet principals (asked one.statement one.constraints) →
    PassesStatements principals (pcs ++ one.pc ∷ []) labels block pcs_behind labels_behind [] →
    PassesStatements principals pcs end (one ∷ block ++ others) pcs_behind end others
passes_block {pcs = pcs} one block others end met passes =
    passes_on (passes_one pcs end one (block ++ others) met) (passes_before end others passes)

-- ---- refusals among statements

pub refused_in_first : {principals : Declared} (first second : List StatementLabels) {why : CheckError} →
    RefusesFor principals (obligations_of first) why → RefusesFor principals (obligations_of (first ++ second)) why
refused_in_first {principals} first second {why} refused =
    subst (λ (all : List Obligation). RefusesFor principals all why) (sym (obligations_of_both first second))
    (refused_before (obligations_of second) refused)

pub refused_in_second : {principals : Declared} (first second : List StatementLabels) {why : CheckError} →
    AreMet principals (obligations_of first) → RefusesFor principals (obligations_of second) why →
    RefusesFor principals (obligations_of (first ++ second)) why
refused_in_second {principals} first second {why} met refused =
    subst (λ (all : List Obligation). RefusesFor principals all why) (sym (obligations_of_both first second))
    (refused_behind met refused)

-- what is left is refused
pub refused_left : {principals : Declared} {pcs pcs_behind : List Label} {labels labels_behind : VariableLabels}
    {all left : List StatementLabels} {why : CheckError} →
    PassesStatements principals pcs labels all pcs_behind labels_behind left →
    RefusesFor principals (obligations_of left) why →
    RefusesFor principals (obligations_of all) why
refused_left {principals} {why = why} passes refused =
    subst (λ (all : List Obligation). RefusesFor principals all why) (sym passes.place)
    (refused_behind passes.met refused)

-- ---- loops

pub loop_passes : {principals : Declared} (setting : MethodSetting) (pc : Label) (labels : VariableLabels)
    (heading : Heading) (guard : ExprTree) (body rest tree : BlockTree) {pcs pcs_behind : List Label}
    {labels_behind : VariableLabels} →
    tree ≡ loop heading guard body rest →
    let inside = guarded setting pc labels guard in
    AreMet principals (asked heading.id
    (expr_constraints setting pc labels guard ++ expr_constraints setting inside labels guard)) →
    PassesStatements principals (pcs ++ inside ∷ []) (labels_after setting inside labels body)
    (block_labels setting inside labels body) pcs_behind labels_behind [] →
    PassesStatements principals pcs (labels_after setting pc labels tree) (block_labels setting pc labels tree)
    pcs_behind (labels_after setting pc labels_behind rest) (block_labels setting pc labels_behind rest)
loop_passes {principals} setting pc labels heading guard body rest tree {pcs} {pcs_behind} {labels_behind} is met
    passes =
    let inside = guarded setting pc labels guard in
    let after = labels_after setting inside labels body in
    let all : BlockTree → Type 0 = λ t.
    PassesStatements principals pcs (labels_after setting pc labels t) (block_labels setting pc labels t)
    pcs_behind (labels_after setting pc labels_behind rest) (block_labels setting pc labels_behind rest) in
    let left : VariableLabels → Type 0 = λ l.
    PassesStatements principals pcs (labels_after setting pc after rest)
    (block_labels setting pc labels (loop heading guard body rest))
    pcs_behind (labels_after setting pc l rest) (block_labels setting pc l rest) in
    subst all (sym is) (subst left passes.same_labels
    (passes_block (record {
      statement = heading.id;
      pc = inside;
      parts = part_labels setting inside labels guard;
      constraints = expr_constraints setting pc labels guard ++ expr_constraints setting inside labels guard;
    }) (block_labels setting inside labels body) (block_labels setting pc after rest)
    (labels_after setting pc after rest)
    met passes))

pub loop_refused : {principals : Declared} (setting : MethodSetting) (pc : Label) (labels : VariableLabels)
    (heading : Heading) (guard : ExprTree) (body rest tree : BlockTree) {why : CheckError} →
    tree ≡ loop heading guard body rest →
    let inside = guarded setting pc labels guard in
    AreMet principals (asked heading.id
    (expr_constraints setting pc labels guard ++ expr_constraints setting inside labels guard)) →
    RefusesFor principals (obligations_of (block_labels setting inside labels body)) why →
    RefusesFor principals (obligations_of (block_labels setting pc labels tree)) why
loop_refused {principals} setting pc labels heading guard body rest tree {why} is met refused =
    let inside = guarded setting pc labels guard in
    let after = labels_after setting inside labels body in
    let all : BlockTree → Type 0 = λ t. RefusesFor principals (obligations_of (block_labels setting pc labels t)) why in
    subst all (sym is)
    (refused_behind met (refused_in_first (block_labels setting inside labels body) (block_labels setting pc after rest)
    refused))

-- ---- branches

pub branch_passes : {principals : Declared} (setting : MethodSetting) (pc : Label) (labels between : VariableLabels)
    (heading : Heading) (guard : ExprTree) (first second rest tree : BlockTree)
    {pcs pcs_between pcs_behind : List Label} {labels_behind : VariableLabels} →
    tree ≡ branch heading guard first second rest →
    let inside = guarded setting pc labels guard in
    AreMet principals (asked heading.id (expr_constraints setting pc labels guard)) →
    PassesStatements principals (pcs ++ pc ∷ []) (labels_after setting inside labels first)
    (block_labels setting inside labels first) pcs_between between [] →
    PassesStatements principals pcs_between (labels_after setting inside between second)
    (block_labels setting inside between second) pcs_behind labels_behind [] →
    PassesStatements principals pcs (labels_after setting pc labels tree) (block_labels setting pc labels tree)
    pcs_behind (labels_after setting pc labels_behind rest) (block_labels setting pc labels_behind rest)
branch_passes {principals} setting pc labels between heading guard first second rest tree {pcs} {pcs_between}
    {pcs_behind} {labels_behind} is met passes also =
    let inside = guarded setting pc labels guard in
    let middle = labels_after setting inside labels first in
    let after = labels_after setting inside middle second in
    let others = block_labels setting pc after rest in
    let end = labels_after setting pc after rest in
    let all : BlockTree → Type 0 = λ t.
    PassesStatements principals pcs (labels_after setting pc labels t) (block_labels setting pc labels t)
    pcs_behind (labels_after setting pc labels_behind rest) (block_labels setting pc labels_behind rest) in
    let left : VariableLabels → Type 0 = λ l.
    PassesStatements principals pcs end (block_labels setting pc labels (branch heading guard first second rest))
    pcs_behind (labels_after setting pc l rest) (block_labels setting pc l rest) in
    let started : VariableLabels → Type 0 = λ l.
    PassesStatements principals pcs_between (labels_after setting inside l second)
    (block_labels setting inside l second) pcs_behind labels_behind [] in
    let then : PassesStatements principals pcs_between after (block_labels setting inside middle second) pcs_behind
    labels_behind
    []
    = subst started (sym passes.same_labels) also in
    let one : StatementLabels = record {
      statement = heading.id;
      pc = pc;
      parts = part_labels setting pc labels guard;
      constraints = expr_constraints setting pc labels guard;
    } in
    let row : List StatementLabels →
    Type 0 = λ list. PassesStatements principals pcs end (one ∷ list) pcs_behind end others in
    subst all (sym is) (subst left then.same_labels
    (subst row (sym (append_assoc (block_labels setting inside labels first) (block_labels setting inside middle second)
    others))
    (passes_on
    (passes_block one (block_labels setting inside labels first) (block_labels setting inside middle second
    ++ others) end
    met passes)
    (passes_before end others then))))

pub first_refused : {principals : Declared} (setting : MethodSetting) (pc : Label) (labels : VariableLabels)
    (heading : Heading) (guard : ExprTree) (first second rest tree : BlockTree) {why : CheckError} →
    tree ≡ branch heading guard first second rest →
    AreMet principals (asked heading.id (expr_constraints setting pc labels guard)) →
    RefusesFor principals (obligations_of (block_labels setting (guarded setting pc labels guard) labels first)) why →
    RefusesFor principals (obligations_of (block_labels setting pc labels tree)) why
first_refused {principals} setting pc labels heading guard first second rest tree {why} is met refused =
    let inside = guarded setting pc labels guard in
    let middle = labels_after setting inside labels first in
    let after = labels_after setting inside middle second in
    let all : BlockTree → Type 0 = λ t. RefusesFor principals (obligations_of (block_labels setting pc labels t)) why in
    subst all (sym is)
    (refused_behind met
    (refused_in_first (block_labels setting inside labels first ++ block_labels setting inside middle second)
    (block_labels setting pc after rest)
    (refused_in_first (block_labels setting inside labels first) (block_labels setting inside middle second) refused)))

pub second_refused : {principals : Declared} (setting : MethodSetting) (pc : Label) (labels between : VariableLabels)
    (heading : Heading) (guard : ExprTree) (first second rest tree : BlockTree) {pcs pcs_between : List Label}
    {why : CheckError} →
    tree ≡ branch heading guard first second rest →
    let inside = guarded setting pc labels guard in
    AreMet principals (asked heading.id (expr_constraints setting pc labels guard)) →
    PassesStatements principals pcs (labels_after setting inside labels first)
    (block_labels setting inside labels first) pcs_between between [] →
    RefusesFor principals (obligations_of (block_labels setting inside between second)) why →
    RefusesFor principals (obligations_of (block_labels setting pc labels tree)) why
second_refused {principals} setting pc labels between heading guard first second rest tree {pcs} {pcs_between} {why} is
    met passes refused =
    let inside = guarded setting pc labels guard in
    let middle = labels_after setting inside labels first in
    let after = labels_after setting inside middle second in
    let all : BlockTree → Type 0 = λ t. RefusesFor principals (obligations_of (block_labels setting pc labels t)) why in
    let started : VariableLabels → Type 0 = λ l. RefusesFor principals
    (obligations_of (block_labels setting inside l second)) why in
    subst all (sym is)
    (refused_behind met
    (refused_in_first (block_labels setting inside labels first ++ block_labels setting inside middle second)
    (block_labels setting pc after rest)
    (refused_in_second (block_labels setting inside labels first) (block_labels setting inside middle second)
    (all_met passes) (subst started (sym passes.same_labels) refused))))

-- ---- methods

pub method_refused : {principals : Declared} (program : ProgramTree) (labels : VariableLabels) (method : MethodTree)
    (rest : List MethodTree) {why : CheckError} →
    RefusesFor principals (obligations_of
    (block_labels (setting_of principals program method) method.begin labels method.body)) why →
    RefusesFor principals (obligations_of (methods_labels principals program labels (method ∷ rest))) why
method_refused {principals} program labels method rest refused =
    let setting = setting_of principals program method in
    refused_in_first (method_labels setting labels method)
    (methods_labels principals program (labels_after setting method.begin labels method.body) rest) refused
