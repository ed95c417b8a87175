-- The variables of a program, added one by one.
use Rattle.std.proofs.Common.{◌≡◌, ℕ, suc, ◌+◌, ◌<◌, ◌≤◌, List, [], ◌∷◌, ◌++◌, map, length, drop, get_or, refl, ap, sym}
use Rattle.std.proofs.Common.{◌∙◌, subst, arith}
use Rattle.std.specs.List.{AllZip, flat_map}
use Rattle.std.proofs.lemmas.Grind.{flat_map-append}
use Rattle.std.proofs.lemmas.List.{append-nil, append_assoc, map-append, drop_all}
use Rattle.js_base.proofs.Lists.{zip_push}
use Rattle.js_base.specs.declared.ids.MethodId.{MethodId}
use Rattle.js_base.proofs.Lists.{none_in_two}
use Rattle.principals.specs.ActsFor.{Declared}
use Rattle.jif_tree.specs.declared.draft.ExprDraft.{ExprDraft}
use Rattle.jif_tree.specs.declared.draft.ParamDraft.{ParamDraft}
use Rattle.jif_tree.specs.declared.draft.StmtKindDraft as kind
use Rattle.jif_tree.specs.declared.draft.StmtKindDraft.{StmtKindDraft}
use Rattle.jif_tree.specs.declared.draft.StmtDraft.{StmtDraft}
use Rattle.jif_tree.specs.declared.draft.MethodDraft.{MethodDraft}
use Rattle.jif_tree.specs.declared.program.Var.{Var}
use Rattle.jif_tree.specs.Trees.{var_tree}
use Rattle.jif_grammar.specs.DraftShapes.{Start, BlockShape, end_shape, MethodShape, param_shape, statement_shape}
use Rattle.jif_grammar.specs.DraftShapes.{block_shape, method_shape}
use Rattle.jif_resolve.specs.Counts.{locals_in}
use Rattle.jif_resolve.specs.Faults.{optional_label_faults}
use Rattle.jif_resolve.specs.Variables.{VariableShape, result_variables, method_variables, variables_from}
use Rattle.jif_resolve.specs.Resolved.{IsVariableFor}
use Rattle.jif_resolve.specs.AddedVariables.{param_variable, local_variable, local_variables, AreLabelled}
use Rattle.jif_resolve.specs.AddedVariables.{AddsVariables}
use Rattle.jif_resolve.proofs.Walks.{at_place, if_alone, while_alone}
use Rattle.jif_resolve.proofs.MethodWalks.{shapes_from}

-- ---- lists of variables

pub labelled_both : (principals : Declared) (front back : List VariableShape) → AreLabelled principals (front ++ back) →
    AreLabelled principals front × AreLabelled principals back
labelled_both principals front back all =
    let of = λ (v : VariableShape). optional_label_faults principals v.label in
    none_in_two (flat_map of front) (flat_map of back) (sym (flat_map-append of front back) ∙ all)

pub adds_none : (principals : Declared) (old : List Var) → AddsVariables principals [] old old
adds_none principals old before is =
    subst (λ vs. AllZip (IsVariableFor principals) vs (map var_tree old)) (sym (append-nil before)) is

pub adds_one : (principals : Declared) (shape : VariableShape) (old : List Var) (last : Var) →
    IsVariableFor principals shape (var_tree last) → AddsVariables principals (shape ∷ []) old (old ++ last ∷ [])
adds_one principals shape old last one before is =
    subst (λ ts. AllZip (IsVariableFor principals) (before ++ shape ∷ []) ts)
    (sym (map-append var_tree old (last ∷ [])))
    (zip_push (IsVariableFor principals) before (map var_tree old) shape (var_tree last) is one)

pub adds_both : (principals : Declared) (front back : List VariableShape) (old between new : List Var) →
    AddsVariables principals front old between → AddsVariables principals back between new →
    AddsVariables principals (front ++ back) old new
adds_both principals front back old between new one two before is =
    subst (λ vs. AllZip (IsVariableFor principals) vs (map var_tree new)) (append_assoc before front back)
    (two (before ++ front) (one before is))

-- what is made where a walk has come so far: whatever is added for what is left, with it all is added
pub record AddedSoFar (principals : Declared) (all left : List VariableShape) (old now : List Var) : Type 0 where
  pub labelled : AreLabelled principals left
  pub front : (later : List Var) → AddsVariables principals left now later → AddsVariables principals all old later

pub added_next : {principals : Declared} {all left : List VariableShape} {old now : List Var}
    (one rest : List VariableShape) → AddedSoFar principals all left old now → left ≡ one ++ rest →
    AreLabelled principals one
added_next {principals} {all} {left} {old} {now} one rest so_far split =
    (labelled_both principals one rest (subst (AreLabelled principals) split so_far.labelled)).0

pub added_more : {principals : Declared} {all left : List VariableShape} {old now : List Var}
    (one rest : List VariableShape) (next : List Var) → AddedSoFar principals all left old now → left ≡ one ++ rest →
    AddsVariables principals one now next → AddedSoFar principals all rest old next
added_more {principals} {all} {left} {old} {now} one rest next so_far split added = record {
  labelled = (labelled_both principals one rest (subst (AreLabelled principals) split so_far.labelled)).1;
  front = λ later others. so_far.front later
      (subst (λ vs. AddsVariables principals vs now later) (sym split)
      (adds_both principals one rest now next later added others));
}

pub added_all : {principals : Declared} {all left : List VariableShape} {old now : List Var} →
    AddedSoFar principals all left old now → left ≡ [] → AddsVariables principals all old now
added_all {principals} {all} {left} {old} {now} so_far none =
    so_far.front now (subst (λ vs. AddsVariables principals vs now now) (sym none) (adds_none principals now))

-- ---- parameters

abbrev pub params_from : MethodId → List ParamDraft → ℕ → List VariableShape
params_from method params i = map (param_variable method) (map param_shape (drop i params))

pub param_next : (method : MethodId) (params : List ParamDraft) (i : ℕ) (x : ParamDraft) → i < length params →
    x ≡ get_or params i x →
    params_from method params i ≡ (param_variable method (param_shape x) ∷ []) ++ params_from method params (i + 1)
param_next method params i x less read = ap (map (param_variable method)) (shapes_from param_shape params i x less read)

pub no_params : (method : MethodId) (params : List ParamDraft) (i : ℕ) → length params ≤ i →
    params_from method params i ≡ []
no_params method params i over = ap (λ ys. map (param_variable method) (map param_shape ys)) (drop_all i params over)

-- ---- locals

next_locals : (k : StmtKindDraft) (start : Start) (rest : BlockShape) →
    locals_in (statement_shape k start rest) ≡ locals_in (statement_shape k start end_shape) ++ locals_in rest
next_locals (kind.Declare label name value) start rest = refl
next_locals (kind.Assign name value) start rest = refl
next_locals (kind.AssignElement name index value) start rest = refl
next_locals (kind.If' guard m first n second) start rest = simp append-nil refl
next_locals (kind.While' guard m body) start rest = simp append-nil refl
next_locals (kind.Call name args into) start rest = refl
next_locals (kind.Return value) start rest = refl

abbrev pub locals_from : MethodId → List StmtDraft → ℕ → List VariableShape
locals_from method block i = local_variables method (block_shape (drop i block))

pub local_next : (method : MethodId) (block : List StmtDraft) (i : ℕ) (x : StmtDraft) → i < length block →
    x ≡ get_or block i x →
    locals_from method block i ≡ local_variables method (block_shape (x ∷ [])) ++ locals_from method block (i + 1)
local_next method block i x less read =
    let rest = block_shape (drop (i + 1) block) in
    ap (λ ys. local_variables method (block_shape ys)) (at_place block i x less read)
    ∙ ap (map (local_variable method)) (next_locals x.kind (record { at = x.at; line = x.line }) rest)
    ∙ map-append (local_variable method) (locals_in (block_shape (x ∷ []))) (locals_in rest)

pub no_locals : (method : MethodId) (block : List StmtDraft) (i : ℕ) → length block ≤ i →
    locals_from method block i ≡ []
no_locals method block i over = ap (λ ys. local_variables method (block_shape ys)) (drop_all i block over)

-- ---- methods

abbrev pub methods_left : List MethodDraft → ℕ → List VariableShape
methods_left methods i = variables_from i (map method_shape (drop i methods))

pub method_next : (methods : List MethodDraft) (i : ℕ) (x : MethodDraft) → i < length methods →
    x ≡ get_or methods i x →
    methods_left methods i ≡ method_variables (record { 0 = i }) (method_shape x) ++ methods_left methods (i + 1)
method_next methods i x less read =
    let one : suc i ≡ i + 1 = omega arith in
    let rest = map method_shape (drop (i + 1) methods) in
    ap (variables_from i) (shapes_from method_shape methods i x less read)
    ∙ ap (λ n. method_variables (record { 0 = i }) (method_shape x) ++ variables_from n rest) one

pub no_methods : (methods : List MethodDraft) (i : ℕ) → length methods ≤ i → methods_left methods i ≡ []
no_methods methods i over = ap (λ ys. variables_from i (map method_shape ys)) (drop_all i methods over)

-- ---- statements with blocks, and the parts of a method

pub if_locals : (method : MethodId) (x : StmtDraft) (guard : ExprDraft) (ys zs : List StmtDraft) →
    block_shape (x ∷ []) ≡ if_alone x guard ys zs →
    local_variables method (block_shape (x ∷ []))
    ≡ local_variables method (block_shape ys) ++ local_variables method (block_shape zs)
if_locals method x guard ys zs is =
    let one = locals_in (block_shape ys) in
    let two = locals_in (block_shape zs) in
    ap (local_variables method) is ∙ ap (map (local_variable method)) (append-nil (one ++ two))
    ∙ map-append (local_variable method) one two

pub while_locals : (method : MethodId) (x : StmtDraft) (guard : ExprDraft) (ys : List StmtDraft) →
    block_shape (x ∷ []) ≡ while_alone x guard ys →
    local_variables method (block_shape (x ∷ [])) ≡ local_variables method (block_shape ys)
while_locals method x guard ys is =
    ap (local_variables method) is ∙ ap (map (local_variable method)) (append-nil (locals_in (block_shape ys)))

pub one_labelled : (principals : Declared) (variable : VariableShape) → AreLabelled principals (variable ∷ []) →
    optional_label_faults principals variable.label ≡ []
one_labelled principals variable labelled =
    (none_in_two (optional_label_faults principals variable.label) [] labelled).0

pub method_labelled : (principals : Declared) (number : MethodId) (method : MethodShape) →
    AreLabelled principals (method_variables number method) →
    AreLabelled principals (map (param_variable number) method.params)
    × AreLabelled principals (local_variables number method.body)
    × AreLabelled principals (result_variables number method.result)
method_labelled principals number method all =
    let front = map (param_variable number) method.params in
    let middle = local_variables number method.body in
    let outer = labelled_both principals (front ++ middle) (result_variables number method.result) all in
    let inner = labelled_both principals front middle outer.0 in
    (inner.0, inner.1, outer.1)
