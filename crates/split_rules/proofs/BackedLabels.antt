-- Whoever has to trust the host of a statement trusts the begin label of its method: all that a statement changes has a
-- label to which the program label flows, and who releases trusts the program label.
use Rattle.std.proofs.Common.{◌≡◌, ◌∙◌, ℕ, ◌<◌, ◌⊎◌, Bool, true, false, inl, inr, List, [], ◌∷◌, ◌++◌, map, length}
use Rattle.std.proofs.Common.{refl, sym, subst, arith, true≢false, ◌||◌}
use Rattle.std.specs.Prelude.{Option, Some, None, All, Any, slice_get}
use Rattle.std.specs.Int.{bit_at}
use Rattle.std.specs.List.{AllByRecursion, flat_map, list_any}
use Rattle.std.proofs.lemmas.Option.{slice_get_within, slice_get_cases}
use Rattle.std.proofs.lemmas.Nat.Bits.{bit_at_and}
use Rattle.std.proofs.lemmas.List.Elements.{All-head, All-tail}
use Rattle.std.proofs.lemmas.List.Concat.{flat_map-append}
use Rattle.js_base.specs.declared.ids.VarId.{VarId}
use Rattle.js_base.specs.declared.ids.MethodId.{MethodId}
use Rattle.js_base.specs.declared.ids.PrincipalId.{PrincipalId}
use Rattle.principals.specs.ActsFor.{Declared, ActsFor}
use Rattle.label_lattice.specs.declared.label.Label.{Label}
use Rattle.label_lattice.specs.declared.label.TheConstants.{READERS}
use Rattle.label_lattice.specs.Label.{Trusts}
use Rattle.label_lattice.specs.Lattice.{join_of}
use Rattle.label_lattice.specs.Over.{TrustsOver}
use Rattle.jif_tree.specs.LabelRules.{field_label, call_constraints, MethodSetting, VariableLabels, variable_label}
use Rattle.jif_tree.specs.LabelRules.{expr_label, Holds, expr_constraints, StatementLabels, flow_of}
use Rattle.jif_tree.specs.LabelRules.{guarded, argument_flows, result_flows, return_flows, labels_after}
use Rattle.jif_tree.specs.LabelRules.{labels_after_assignment, block_labels, method_at, params_of}
use Rattle.jif_tree.specs.LabelRules.{begin_label}
use Rattle.jif_tree.specs.Trees.{ExprTree, number, local, scalar, element, inverted, negated, binary, declassified}
use Rattle.jif_tree.specs.Trees.{endorsed, BlockTree, done, set_local, set_field, set_element, branch, loop}
use Rattle.jif_tree.specs.Trees.{call, give_back, MethodTree, ProgramTree}
use Rattle.jif_tree.specs.WellNumbered.{HasVariable, IsBlockIn, is_some}
use Rattle.jif_tree.specs.Labelling.{IsLabelled, IsLabelledIfAny, AreLabelled}
use Rattle.jif_tree.proofs.LabelsKept.{Stay, stay_then, assignment_stays, block_stays, assigned_labelled}
use Rattle.need_labels.specs.Labelled.{Labelled}
use Rattle.need_labels.specs.Needs.{Backing, for_label, for_release, Backs, releases, for_releases, label_of, labels_of}
use Rattle.need_labels.specs.Needs.{all_backing, StatementUse, statement_use, block_uses, kept_result}
use Rattle.need_labels.proofs.Somewhere.{any_first, any_none, any_either}
use Rattle.split_rules.proofs.LabelsKept.{AreFinal, label_there}

-- ---- lists

pub all_first : {X : Type 0} (P : X → Type 0) (xs ys : List X) → AllByRecursion P (xs ++ ys) → AllByRecursion P xs
all_first P [] ys all = tt
all_first P (x ∷ xs) ys all = (all.0, all_first P xs ys all.1)

pub all_second : {X : Type 0} (P : X → Type 0) (xs ys : List X) → AllByRecursion P (xs ++ ys) → AllByRecursion P ys
all_second P [] ys all = all
all_second P (x ∷ xs) ys all = all_second P xs ys all.1

pub all_both : {X : Type 0} (P : X → Type 0) (xs ys : List X) → AllByRecursion P xs → AllByRecursion P ys →
    AllByRecursion P (xs ++ ys)
all_both P [] ys first second = second
all_both P (x ∷ xs) ys first second = (first.0, all_both P xs ys first.1 second)

-- ---- constraints

-- all that is asked for of these statements holds
abbrev pub AreMet : Declared → List StatementLabels → Type 0
AreMet principals statements = AllByRecursion (λ one. AllByRecursion (Holds principals) one.constraints) statements

join_second : (first second : Label) (p : ℕ) → Trusts (join_of first second) p → Trusts second p
unfolding join_of
join_second first second p trusts =
    let both = bit_at_and first.trust second.trust p in
    let bit : bit_at second.trust p < 2 = omega arith in
    omega arith

join_first : (first second : Label) (p : ℕ) → Trusts (join_of first second) p → Trusts first p
unfolding join_of
join_first first second p trusts =
    let both = bit_at_and first.trust second.trust p in
    let bit : bit_at first.trust p < 2 = omega arith in
    omega arith

-- whoever trusts what a value flows to trusts the program label
flow_trusts : (principals : Declared) (pc from to : Label) → Holds principals (flow_of pc from to) → (p : ℕ) →
    p < READERS → Trusts to p → Trusts pc p
flow_trusts principals pc from to holds p within trusts =
    join_second from pc p (holds.1 p within trusts)

pub either_true : (b c : Bool) → (b || c) ≡ true → (b ≡ true) ⊎ (c ≡ true)
either_true true c is = inl refl
either_true false c is = inr is

-- where a value is released, whose authority it is trusts the program label
release_trusted : (setting : MethodSetting) (principals : Declared) (pc : Label) (labels : VariableLabels)
    (expr : ExprTree) → releases expr ≡ true →
    AllByRecursion (Holds principals) (expr_constraints setting pc labels expr) →
    All (λ member. Trusts pc member.0) setting.authority
release_trusted setting principals pc labels (number value) is holds = absurd (true≢false (sym is))
release_trusted setting principals pc labels (local x) is holds = absurd (true≢false (sym is))
release_trusted setting principals pc labels (scalar field) is holds = absurd (true≢false (sym is))
release_trusted setting principals pc labels (element field index) is holds =
    release_trusted setting principals pc labels index is holds
release_trusted setting principals pc labels (inverted operand) is holds =
    release_trusted setting principals pc labels operand is holds
release_trusted setting principals pc labels (negated operand) is holds =
    release_trusted setting principals pc labels operand is holds
release_trusted setting principals pc labels (binary operator left right) is holds =
    let one = expr_constraints setting pc labels left in
    let two = expr_constraints setting pc labels right in
    elim (either_true (releases left) (releases right) is) [
      | inl first ↦ release_trusted setting principals pc labels left first
          (all_first (Holds principals) one two holds)
      | inr second ↦ release_trusted setting principals pc labels right second
          (all_second (Holds principals) one two holds)
    ]
release_trusted setting principals pc labels (declassified operand label) is holds =
    (all_second (Holds principals) (expr_constraints setting pc labels operand) _ holds).1.0
release_trusted setting principals pc labels (endorsed operand label) is holds =
    release_trusted setting principals pc labels operand is
    (all_first (Holds principals) (expr_constraints setting pc labels operand) _ holds)

-- ---- backing

-- one item with both properties
both_some : {X : Type 0} (P Q : X → Type 0) (xs : List X) → Any P xs → All Q xs → (x : X) × P x × Q x
both_some P Q [] some all = absurd (any_none P some)
both_some P Q (x ∷ xs) some all = elim (any_first P x xs some) [
  | inl holds ↦ (x, holds, All-head Q x xs all)
  | inr later ↦ both_some P Q xs later (All-tail Q x xs all)
]

-- a method under whose begin label a program label stands
pub record IsUnder (principals : Declared) (begin pc : Label) (authority : List PrincipalId) : Type 0 where
  pub over : TrustsOver principals begin
  pub members : All (λ member. member.0 < READERS) authority
  pub down : (p : ℕ) → p < READERS → Trusts pc p → Trusts begin p

-- the program label inside a branch or a loop stands under it too
under_guard : (setting : MethodSetting) (principals : Declared) (begin pc : Label) (authority : List PrincipalId)
    (labels : VariableLabels) (guard : ExprTree) → IsUnder principals begin pc authority →
    IsUnder principals begin (guarded setting pc labels guard) authority
under_guard setting principals begin pc authority labels guard under = record {
  over = under.over;
  members = under.members;
  down = λ p within trusts. under.down p within (join_first pc (expr_label setting pc labels guard) p trusts);
}

-- whoever trusts one of the labels trusts the begin label
abbrev AreBelow : Label → ℕ → List Label → Type 0
AreBelow begin p changed = AllByRecursion (λ label. Trusts label p → Trusts begin p) changed

changed_backed : (principals : Declared) (begin : Label) (p : ℕ) (changed : List Label) → AreBelow begin p changed →
    Any (Backs principals p) (map for_label changed) → Trusts begin p
changed_backed principals begin p [] below some = absurd (any_none (Backs principals p) some)
changed_backed principals begin p (label ∷ changed) below some =
    elim (any_first (Backs principals p) (for_label label) (map for_label changed) some) [
      | inl trusts ↦ below.0 trusts
      | inr later ↦ changed_backed principals begin p changed below.1 later
    ]

release_backed : (setting : MethodSetting) (principals : Declared) (begin pc : Label) →
    IsUnder principals begin pc setting.authority → (exprs : List ExprTree) →
    (list_any releases exprs ≡ true → All (λ member. Trusts pc member.0) setting.authority) → (p : ℕ) → p < READERS →
    Any (Backs principals p) (for_releases setting exprs) → Trusts begin p
release_backed setting principals begin pc under exprs trusted p within some = by (list_any releases exprs) refl some
  where
    P : Backing → Type 0
    P = Backs principals p

    released : All (λ member. Trusts pc member.0) setting.authority →
        Any P (for_release setting.authority ∷ []) → Trusts begin p
    released all backs = elim (any_first P (for_release setting.authority) [] backs) [
      | inl acts ↦
          let Q : PrincipalId → Type 0 = λ member. Trusts pc member.0 × (member.0 < READERS) in
          let found = both_some (λ member. ActsFor principals member.0 p) Q setting.authority acts
          (λ k d below. (all k d below, under.members k d below)) in
          under.over.on_behalf found.0.0 p found.2.1 within
          (under.down found.0.0 found.2.1 found.2.0) found.1
      | inr none ↦ absurd (any_none P none)
    ]

    by : (b : Bool) → list_any releases exprs ≡ b → Any P (for_releases setting exprs) → Trusts begin p
    by true is backs = released (trusted is) (rw is at backs)
    by false is backs = absurd (any_none P (rw is at backs))

statement_backed : (setting : MethodSetting) (principals : Declared) (begin pc : Label) →
    IsUnder principals begin pc setting.authority → (changed : List Label) (exprs : List ExprTree)
    (nested : List Backing) (p : ℕ) → p < READERS → AreBelow begin p changed →
    (list_any releases exprs ≡ true → All (λ member. Trusts pc member.0) setting.authority) →
    (Any (Backs principals p) nested → Trusts begin p) →
    Any (Backs principals p) (map for_label changed ++ for_releases setting exprs ++ nested) → Trusts begin p
statement_backed setting principals begin pc under changed exprs nested p within below trusted inside some =
    elim (any_either P (map for_label changed ++ for_releases setting exprs) nested some) [
      | inl own ↦ elim (any_either P (map for_label changed) (for_releases setting exprs) own) [
        | inl labels ↦ changed_backed principals begin p changed below labels
        | inr release ↦ release_backed setting principals begin pc under exprs trusted p within release
      ]
      | inr deeper ↦ inside deeper
    ]
  where
    P : Backing → Type 0
    P = Backs principals p

-- ---- flows

-- a value flows to a variable that has a label
to_variable : (labelled : Labelled) (principals : Declared) (begin pc : Label) (authority : List PrincipalId) →
    IsUnder principals begin pc authority → (labels final : VariableLabels) → AreFinal labelled final →
    Stay labels final → (x : VarId) → IsLabelled labels x → (from : Label) →
    Holds principals (flow_of pc from (variable_label labels x)) → (p : ℕ) → p < READERS →
    Trusts (label_of labelled x) p → Trusts begin p
to_variable labelled principals begin pc authority under labels final are stay x there from holds p within trusts =
    let P : Label → Type 0 = λ label. Trusts label p in
    under.down p within (flow_trusts principals pc from (variable_label labels x) holds p within
    (subst P (label_there labelled labels final are stay x there) trusts))

params_below : (labelled : Labelled) (setting : MethodSetting) (principals : Declared) (begin pc : Label) →
    IsUnder principals begin pc setting.authority → (labels final : VariableLabels) → AreFinal labelled final →
    Stay labels final → (arguments : List ExprTree) (params : List VarId) → length params ≡ length arguments →
    AllByRecursion (IsLabelled labels) params →
    AllByRecursion (Holds principals) (argument_flows setting pc labels arguments params) → (p : ℕ) → p < READERS →
    AreBelow begin p (map (label_of labelled) params)
params_below labelled setting principals begin pc under labels final are stay arguments [] many there holds p within =
    tt
params_below labelled setting principals begin pc under labels final are stay [] (param ∷ params) many there holds p
    within = absurd (omega (arith, many))
params_below labelled setting principals begin pc under labels final are stay (argument ∷ arguments)
    (param ∷ params) many
    there holds p within = (
      to_variable labelled principals begin pc setting.authority under labels final are stay param there.0
          (expr_label setting pc labels argument) holds.0 p within,
      params_below labelled setting principals begin pc under labels final are stay arguments params
          (omega (arith, many)) there.1 holds.1 p within,
    )

kept_below : (labelled : Labelled) (principals : Declared) (begin pc : Label) (authority : List PrincipalId) →
    IsUnder principals begin pc authority → (labels final : VariableLabels) → AreFinal labelled final →
    Stay labels final → (result into : Option VarId) → is_some result ≡ is_some into → IsLabelledIfAny labels into →
    AllByRecursion (Holds principals) (result_flows pc labels result into) → (p : ℕ) → p < READERS →
    AreBelow begin p (labels_of labelled into)
kept_below labelled principals begin pc authority under labels final are stay result None same there holds p within = tt
kept_below labelled principals begin pc authority under labels final are stay None (Some x) same there holds p within =
    absurd (true≢false (sym same))
kept_below labelled principals begin pc authority under labels final are stay (Some result) (Some x) same there holds p
    within = (
      to_variable labelled principals begin pc authority under labels final are stay x there
          (variable_label labels result)
          holds.0 p within,
      tt,
    )

given_below : (labelled : Labelled) (principals : Declared) (begin pc : Label) (authority : List PrincipalId) →
    IsUnder principals begin pc authority → (labels final : VariableLabels) → AreFinal labelled final →
    Stay labels final → (result : Option VarId) → IsLabelledIfAny labels result → (from : Label) →
    AllByRecursion (Holds principals) (return_flows pc labels result from) → (p : ℕ) → p < READERS →
    AreBelow begin p (labels_of labelled result)
given_below labelled principals begin pc authority under labels final are stay None there from holds p within = tt
given_below labelled principals begin pc authority under labels final are stay (Some result) there from holds p
    within = (
      to_variable labelled principals begin pc authority under labels final are stay result there from holds.0 p within,
      tt,
    )

-- ---- blocks

abbrev pub Backed : Declared → Label → Labelled → MethodSetting → BlockTree → Type 0
Backed principals begin labelled setting block =
    (p : ℕ) → p < READERS → Any (Backs principals p) (all_backing (block_uses labelled setting block)) → Trusts begin p

-- the first statement of a block, and those behind it
first_or_rest : (principals : Declared) (p : ℕ) (first : StatementUse) (uses : List StatementUse) (T : Type 0) →
    (Any (Backs principals p) first.backing → T) → (Any (Backs principals p) (all_backing uses) → T) →
    Any (Backs principals p) (all_backing (first ∷ uses)) → T
first_or_rest principals p first uses T one others some =
    elim (any_either (Backs principals p) first.backing (all_backing uses) some) [
      | inl own ↦ one own
      | inr later ↦ others later
    ]

-- those inside a statement, and those behind it
inside_or_rest : (principals : Declared) (p : ℕ) (inside uses : List StatementUse) (T : Type 0) →
    (Any (Backs principals p) (all_backing inside) → T) → (Any (Backs principals p) (all_backing uses) → T) →
    Any (Backs principals p) (all_backing (inside ++ uses)) → T
inside_or_rest principals p inside uses T one others some =
    let P : List Backing → Type 0 = λ list. Any (Backs principals p) list in
    elim (any_either (Backs principals p) (all_backing inside) (all_backing uses)
    (subst P (flat_map-append (λ it. it.backing) inside uses) some)) [
      | inl own ↦ one own
      | inr later ↦ others later
    ]

nothing_inside : (principals : Declared) (begin : Label) (p : ℕ) → Any (Backs principals p) [] → Trusts begin p
nothing_inside principals begin p some = absurd (any_none (Backs principals p) some)

-- one expression alone is released
one_release : (expr : ExprTree) → list_any releases (expr ∷ []) ≡ true → releases expr ≡ true
one_release expr is = elim (either_true (releases expr) false is) [
  | inl own ↦ own
  | inr none ↦ absurd (true≢false (sym none))
]

all_releases : (setting : MethodSetting) (principals : Declared) (pc : Label) (labels : VariableLabels)
    (exprs : List ExprTree) →
    AllByRecursion (Holds principals) (flat_map (expr_constraints setting pc labels) exprs) →
    list_any releases exprs ≡ true → All (λ member. Trusts pc member.0) setting.authority
all_releases setting principals pc labels [] holds is = absurd (true≢false (sym is))
all_releases setting principals pc labels (expr ∷ exprs) holds is =
    let own = expr_constraints setting pc labels expr in
    let rest = flat_map (expr_constraints setting pc labels) exprs in
    elim (either_true (releases expr) (list_any releases exprs) is) [
      | inl one ↦ release_trusted setting principals pc labels expr one (all_first (Holds principals) own rest holds)
      | inr others ↦ all_releases setting principals pc labels exprs (all_second (Holds principals) own rest holds)
          others
    ]

below_both : (begin : Label) (p : ℕ) (one two : List Label) → AreBelow begin p one → AreBelow begin p two →
    AreBelow begin p (one ++ two)
below_both begin p [] two first second = second
below_both begin p (label ∷ one) two first second = (first.0, below_both begin p one two first.1 second)

-- a variable of the program is among those that have labels or none
pub variable_found : (labelled : Labelled) (method : MethodId) (x : VarId) (labels : VariableLabels) →
    length labels ≡ length labelled.program.vars → HasVariable labelled.program method x →
    (found : Option Label) × (slice_get labels x.0 ≡ Some found)
variable_found labelled method x labels many there =
    let within = slice_get_within labelled.program.vars x.0 there.0 there.1 in
    elim ((slice_get_cases labels x.0).1) [
      | inl found ↦ (found.0, found.2)
      | inr past ↦ absurd (let over = past.0 in omega arith)
    ]

pub block_backed : (labelled : Labelled) (principals : Declared) (method : MethodId) (gives : Bool)
    (setting : MethodSetting) → setting.program ≡ labelled.program → is_some setting.result ≡ gives →
    (begin pc : Label) → IsUnder principals begin pc setting.authority → (labels final : VariableLabels) →
    AreFinal labelled final → length labels ≡ length labelled.program.vars → (block : BlockTree) →
    Stay (labels_after setting pc labels block) final → IsBlockIn labelled.program method gives block →
    AreLabelled setting pc labels block → AreMet principals (block_labels setting pc labels block) →
    Backed principals begin labelled setting block
block_backed labelled principals method gives setting same gives_it begin pc under labels final are many done stay there
    labelled_there met p within some = absurd (any_none (Backs principals p) some)
block_backed labelled principals method gives setting same gives_it begin pc under labels final are many
    (set_local heading x value rest) stay there labelled_there met p within some =
    let from = expr_label setting pc labels value in
    let after = labels_after_assignment labels x (join_of from pc) in
    let behind = labels_after setting pc after rest in
    let assigned = assignment_stays labels x (join_of from pc) in
    let own = expr_constraints setting pc labels value in
    let flows = (all_second (Holds principals) own _ met.0).0 in
    let variable = variable_found labelled method x labels many there.0 in
    first_or_rest principals p (statement_use labelled setting heading.id (value ∷ []) [] (label_of labelled x ∷ []) [])
    (block_uses labelled setting rest) (Trusts begin p)
    (statement_backed setting principals begin pc under (label_of labelled x ∷ []) (value ∷ []) [] p within (
      to_variable labelled principals begin pc setting.authority under after final are
          (stay_then after behind final (block_stays setting pc after rest) stay) x
          (assigned_labelled labels x (join_of from pc) variable.0 variable.1) from flows p within,
      tt,
    ) (λ is. release_trusted setting principals pc labels value (one_release value is)
    (all_first (Holds principals) own _ met.0)) (nothing_inside principals begin p))
    (block_backed labelled principals method gives setting same gives_it begin pc under after final are
    (assigned.many ∙ many) rest stay there.2 labelled_there met.1 p within) some
block_backed labelled principals method gives setting same gives_it begin pc under labels final are many
    (set_field heading field value rest) stay there labelled_there met p within some =
    let own = expr_constraints setting pc labels value in
    let flows = (all_second (Holds principals) own _ met.0).0 in
    let P : ProgramTree → Type 0 = λ program. Holds principals
    (flow_of pc (expr_label setting pc labels value) (field_label program field)) in
    first_or_rest principals p (statement_use labelled setting heading.id (value ∷ []) []
    (field_label labelled.program field ∷ []) [])
    (block_uses labelled setting rest) (Trusts begin p)
    (statement_backed setting principals begin pc under (field_label labelled.program field ∷ [])
    (value ∷ []) [] p within (
      λ trusts. under.down p within (flow_trusts principals pc (expr_label setting pc labels value)
          (field_label labelled.program field) (subst P same flows) p within trusts),
      tt,
    ) (λ is. release_trusted setting principals pc labels value (one_release value is)
    (all_first (Holds principals) own _ met.0)) (nothing_inside principals begin p))
    (block_backed labelled principals method gives setting same gives_it begin pc under labels final are many rest stay
    there.2 labelled_there met.1 p within) some
block_backed labelled principals method gives setting same gives_it begin pc under labels final are many
    (set_element heading field index value rest) stay there labelled_there met p within some =
    let one = expr_constraints setting pc labels index in
    let two = expr_constraints setting pc labels value in
    let from = join_of (expr_label setting pc labels index) (expr_label setting pc labels value) in
    let flows = (all_second (Holds principals) (one ++ two) _ met.0).0 in
    let both = all_first (Holds principals) (one ++ two) _ met.0 in
    let P : ProgramTree → Type 0 = λ program. Holds principals (flow_of pc from (field_label program field)) in
    first_or_rest principals p (statement_use labelled setting heading.id (index ∷ value ∷ []) []
    (field_label labelled.program field ∷ []) [])
    (block_uses labelled setting rest) (Trusts begin p)
    (statement_backed setting principals begin pc under (field_label labelled.program field ∷ [])
    (index ∷ value ∷ []) []
    p within (
      λ trusts. under.down p within (flow_trusts principals pc from (field_label labelled.program field)
          (subst P same flows) p within trusts),
      tt,
    ) (λ is. elim (either_true (releases index) (list_any releases (value ∷ [])) is) [
      | inl first ↦ release_trusted setting principals pc labels index first (all_first (Holds principals) one two both)
      | inr second ↦ release_trusted setting principals pc labels value (one_release value second)
          (all_second (Holds principals) one two both)
    ]) (nothing_inside principals begin p))
    (block_backed labelled principals method gives setting same gives_it begin pc under labels final are many rest stay
    there.3 labelled_there met.1 p within) some
block_backed labelled principals method gives setting same gives_it begin pc under labels final are many
    (branch heading guard first second rest) stay there labelled_there met p within some =
    let inside_pc = guarded setting pc labels guard in
    let between = labels_after setting inside_pc labels first in
    let behind = labels_after setting inside_pc between second in
    let end = labels_after setting pc behind rest in
    let one = block_uses labelled setting first in
    let two = block_uses labelled setting second in
    let under_inside = under_guard setting principals begin pc setting.authority labels guard under in
    let first_stays = block_stays setting inside_pc labels first in
    let second_stays = block_stays setting inside_pc between second in
    let rest_stays = stay_then behind end final (block_stays setting pc behind rest) stay in
    let labels_one = block_labels setting inside_pc labels first in
    let labels_two = block_labels setting inside_pc between second in
    let both_met = all_first (λ (it : StatementLabels). AllByRecursion (Holds principals) it.constraints)
    (labels_one ++ labels_two) _ met.1 in
    let rest_met = all_second (λ (it : StatementLabels). AllByRecursion (Holds principals) it.constraints)
    (labels_one ++ labels_two) _ met.1 in
    let one_met = all_first (λ (it : StatementLabels). AllByRecursion (Holds principals) it.constraints) labels_one
    labels_two both_met in
    let two_met = all_second (λ (it : StatementLabels). AllByRecursion (Holds principals) it.constraints) labels_one
    labels_two both_met in
    let first_backed = block_backed labelled principals method gives setting same gives_it begin inside_pc under_inside
    labels final are many first (stay_then between behind final second_stays rest_stays) there.1 labelled_there.0
    one_met
    p within in
    let second_backed = block_backed labelled principals method gives setting same gives_it begin inside_pc under_inside
    between final are (first_stays.many ∙ many) second rest_stays there.2 labelled_there.1 two_met p within in
    let inside_backed = inside_or_rest principals p one two (Trusts begin p) first_backed second_backed in
    first_or_rest principals p (statement_use labelled setting heading.id (guard ∷ []) [] [] (all_backing (one ++ two)))
    ((one ++ two) ++ block_uses labelled setting rest) (Trusts begin p)
    (statement_backed setting principals begin pc under [] (guard ∷ []) (all_backing (one ++ two)) p within tt
    (λ is. release_trusted setting principals pc labels guard (one_release guard is) met.0) inside_backed)
    (inside_or_rest principals p (one ++ two) (block_uses labelled setting rest) (Trusts begin p) inside_backed
    (block_backed labelled principals method gives setting same gives_it begin pc under behind final are
    (second_stays.many ∙ first_stays.many ∙ many) rest stay there.3 labelled_there.2 rest_met p within)) some
block_backed labelled principals method gives setting same gives_it begin pc under labels final are many
    (loop heading guard inner rest) stay there labelled_there met p within some =
    let inside_pc = guarded setting pc labels guard in
    let behind = labels_after setting inside_pc labels inner in
    let end = labels_after setting pc behind rest in
    let one = block_uses labelled setting inner in
    let under_inside = under_guard setting principals begin pc setting.authority labels guard under in
    let inner_stays = block_stays setting inside_pc labels inner in
    let rest_stays = stay_then behind end final (block_stays setting pc behind rest) stay in
    let labels_one = block_labels setting inside_pc labels inner in
    let one_met = all_first (λ (it : StatementLabels). AllByRecursion (Holds principals) it.constraints) labels_one _
    met.1 in
    let rest_met = all_second (λ (it : StatementLabels). AllByRecursion (Holds principals) it.constraints) labels_one _
    met.1 in
    let inside_backed = block_backed labelled principals method gives setting same gives_it begin inside_pc under_inside
    labels final are many inner rest_stays there.1 labelled_there.0 one_met p within in
    first_or_rest principals p (statement_use labelled setting heading.id (guard ∷ []) [] [] (all_backing one))
    (one ++ block_uses labelled setting rest) (Trusts begin p)
    (statement_backed setting principals begin pc under [] (guard ∷ []) (all_backing one) p within tt
    (λ is. release_trusted setting principals pc labels guard (one_release guard is)
    (all_first (Holds principals) (expr_constraints setting pc labels guard) _ met.0)) inside_backed)
    (inside_or_rest principals p one (block_uses labelled setting rest) (Trusts begin p) inside_backed
    (block_backed labelled principals method gives setting same gives_it begin pc under behind final are
    (inner_stays.many ∙ many) rest stay there.2 labelled_there.1 rest_met p within)) some
block_backed labelled principals method gives setting same gives_it begin pc under labels final are many
    (call heading site called arguments into rest) stay there labelled_there met p within some =
    let end = labels_after setting pc labels rest in
    let stays = stay_then labels end final (block_stays setting pc labels rest) stay in
    let own = flat_map (expr_constraints setting pc labels) arguments in
    let asked = all_second (Holds principals) own _ met.0 in
    let tree = there.0.0 in
    let there_called = method_at labelled.program called in
    let changed = begin_label there_called ∷ map (label_of labelled) (params_of there_called)
    ++ labels_of labelled into in
    let P : ProgramTree → Type 0 = λ program. AllByRecursion (Holds principals)
    (call_constraints setting pc labels (method_at program called) arguments into) in
    let Q : Option MethodTree → Type 0 = λ it. AllByRecursion (Holds principals)
    (call_constraints setting pc labels it arguments into) in
    let asked_there : Q (Some tree) = subst Q there.0.1 (subst P same asked) in
    let R : ProgramTree → Type 0 = λ program. AllByRecursion (IsLabelled labels)
    (params_of (method_at program called)) in
    let S : Option MethodTree → Type 0 = λ it. AllByRecursion (IsLabelled labels) (params_of it) in
    let params_there : S (Some tree) = subst S there.0.1 (subst R same labelled_there.0) in
    let T : Option MethodTree → Type 0 = λ it. AreBelow begin p
    (begin_label it ∷ map (label_of labelled) (params_of it) ++ labels_of labelled into) in
    let flows = all_first (Holds principals) (argument_flows setting pc labels arguments tree.params) _ asked_there.1 in
    let kept = all_second (Holds principals) (argument_flows setting pc labels arguments tree.params) _ asked_there.1 in
    let below : T (Some tree) = (
      λ trusts. under.down p within (asked_there.0.1 p within trusts),
      below_both begin p (map (label_of labelled) tree.params) (labels_of labelled into)
          (params_below labelled setting principals begin pc under labels final are stays arguments tree.params
          there.0.2
          params_there flows p within)
          (kept_below labelled principals begin pc setting.authority under labels final are stays tree.result into
          there.0.3 labelled_there.1 kept p within),
    ) in
    first_or_rest principals p (statement_use labelled setting heading.id arguments
    (begin_label there_called ∷ kept_result labelled there_called into) changed [])
    (block_uses labelled setting rest) (Trusts begin p)
    (statement_backed setting principals begin pc under changed arguments [] p within (subst T (sym there.0.1) below)
    (all_releases setting principals pc labels arguments (all_first (Holds principals) own _ met.0))
    (nothing_inside principals begin p))
    (block_backed labelled principals method gives setting same gives_it begin pc under labels final are many rest stay
    there.3 labelled_there.2 met.1 p within) some
block_backed labelled principals method gives setting same gives_it begin pc under labels final are many
    (give_back heading value rest) stay there labelled_there met p within some =
    let end = labels_after setting pc labels rest in
    let stays = stay_then labels end final (block_stays setting pc labels rest) stay in
    let own = expr_constraints setting pc labels value in
    let flows = all_second (Holds principals) own _ met.0 in
    first_or_rest principals p (statement_use labelled setting heading.id (value ∷ []) []
    (labels_of labelled setting.result) [])
    (block_uses labelled setting rest) (Trusts begin p)
    (statement_backed setting principals begin pc under (labels_of labelled setting.result) (value ∷ []) [] p within
    (given_below labelled principals begin pc setting.authority under labels final are stays setting.result
    labelled_there.0 (expr_label setting pc labels value) flows p within)
    (λ is. release_trusted setting principals pc labels value (one_release value is)
    (all_first (Holds principals) own _ met.0)) (nothing_inside principals begin p))
    (block_backed labelled principals method gives setting same gives_it begin pc under labels final are many rest stay
    there.2 labelled_there.1 met.1 p within) some
