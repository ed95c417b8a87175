-- What a host brings about that is trusted for a statement, by the labels of the program: it affects what the statement
-- sets, stores or gives back, and is trusted for what the statement starts.
use Rattle.std.proofs.Common.{◌≡◌, ◌∙◌, ℕ, ◌<◌, Bool, List, [], ◌∷◌, ◌++◌, map, length, refl, ap, sym, subst}
use Rattle.std.proofs.Common.{arith, inl, inr}
use Rattle.std.specs.Prelude.{Option, Some, None, Any, slice_get, slice_index, ⊤}
use Rattle.std.specs.List.{AllByRecursion}
use Rattle.std.specs.Option.{IsSomeAnd}
use Rattle.std.proofs.lemmas.List.Concat.{flat_map-append}
use Rattle.std.proofs.lemmas.Option.{slice_get_within, slice_get_cases}
use Rattle.js_base.specs.declared.ids.FieldId.{FieldId}
use Rattle.js_base.specs.declared.ids.VarId.{VarId}
use Rattle.js_base.specs.declared.ids.MethodId.{MethodId}
use Rattle.js_base.specs.declared.ids.StmtId.{StmtId}
use Rattle.principals.specs.ActsFor.{Declared}
use Rattle.label_lattice.specs.declared.label.Label.{Label}
use Rattle.label_lattice.specs.declared.label.TheConstants.{READERS}
use Rattle.label_lattice.specs.Label.{IntegFlows, IsTrustedBy, Trusts}
use Rattle.jif_tree.specs.Trees.{BlockTree, done, set_local, set_field, set_element, branch, loop, call, give_back}
use Rattle.jif_tree.specs.Trees.{FieldTree, MethodTree}
use Rattle.jif_tree.specs.LabelRules.{setting_of, method_at, begin_label, params_of, result_of, field_label}
use Rattle.jif_tree.specs.WellNumbered.{HasField, HasVariable, HasOptionalVariable, IsBlockIn, IsMethodIn, is_some}
use Rattle.need_labels.specs.Labelled.{Labelled}
use Rattle.need_labels.specs.Needs.{Backing, for_label, Backs, IsNeed, StatementUse, block_uses}
use Rattle.need_labels.specs.Needs.{method_uses, all_backing, for_releases, label_of, labels_of}
use Rattle.need_labels.proofs.Somewhere.{any_first, any_none, any_left, any_right}
use Rattle.msg_cost.specs.Moves.{PlannedShape}
use Rattle.split_rules.specs.Placed.{PlacedProgram, planned_from}
use Rattle.split_rules.specs.Positions.{statements_of, all_statements, IsStatementOfMethod, IsOf, number_of}
use Rattle.split_rules.specs.Positions.{statement_due, run}
use Rattle.split_rules.specs.Positions.{all_due}
use Rattle.split_rules.specs.Allowed.{IsAllowed}
use Rattle.split_rules.specs.Opening.{MayRun, MayRunAll, StoresTo, started, GivesIn}
use Rattle.split_rules.specs.Splittable.{IsSplittable}
use Rattle.split_rules.specs.Typing.{IsParam, body_of, need_of_method}
use Rattle.split_rules.proofs.AllowedTyping.{IsNeeded, AreNeeded, AreBackedBy, own_backed, of_block, body_of_program}
use Rattle.split_rules.proofs.AllowedTyping.{allowed_needed, allowed_bodies}
use Rattle.split_rules.proofs.BackedLabels.{all_first, all_second, all_both}
use Rattle.split_rules.proofs.SeenLabels.{label_in, label_found, label_of_found}
use Rattle.split_rules.proofs.SeenPrograms.{part_of_all}
use Rattle.split_rules.proofs.TrustedNeeds.{none_needed, head_needed, changes_all}
use Rattle.split_rules.proofs.WalkedPrograms.{method_there}

-- ---- fields and variables

-- the field is there, and whoever trusts it trusts the label
abbrev pub AffectsField : Labelled → Label → FieldId → Type 0
AffectsField labelled label field =
    IsSomeAnd (slice_get labelled.program.fields field.0) (λ tree. IntegFlows label tree.label)

abbrev pub AffectsVariable : Labelled → Label → VarId → Type 0
AffectsVariable labelled label x = IsSomeAnd (slice_get labelled.var_labels x.0) (IntegFlows label)

abbrev pub AffectsIfAny : Labelled → Label → Option VarId → Type 0
AffectsIfAny labelled label None = ⊤
AffectsIfAny labelled label (Some x) = AffectsVariable labelled label x

field_affected : (labelled : Labelled) (label : Label) (array : Bool) (field : FieldId) →
    HasField labelled.program array field → IntegFlows label (field_label labelled.program field) →
    AffectsField labelled label field
field_affected labelled label array field there flows =
    let P : Option FieldTree → Type 0 = λ found. IsSomeAnd found (λ tree. IntegFlows label tree.label) in
    let Q : Label → Type 0 = λ it. IntegFlows label it in
    let own : IntegFlows label there.0.label = subst Q (ap label_in there.1) flows in
    subst P (sym there.1) own

variable_affected : (labelled : Labelled) (label : Label) (method : MethodId) (x : VarId) →
    length labelled.var_labels ≡ length labelled.program.vars → HasVariable labelled.program method x →
    IntegFlows label (label_of labelled x) → AffectsVariable labelled label x
variable_affected labelled label method x many there flows =
    let within = slice_get_within labelled.program.vars x.0 there.0 there.1 in
    elim ((slice_get_cases labelled.var_labels x.0).1) [
      | inl found ↦
          let P : Option Label → Type 0 = λ it. IsSomeAnd it (IntegFlows label) in
          let Q : Label → Type 0 = λ it. IntegFlows label it in
          let own : IntegFlows label found.0 = subst Q (label_of_found labelled x ∙ ap label_found found.2) flows in
          subst P (sym found.2) own
      | inr past ↦ absurd (let over = past.0 in omega arith)
    ]

variables_affected : (labelled : Labelled) (label : Label) (method : MethodId) (xs : List VarId) →
    length labelled.var_labels ≡ length labelled.program.vars →
    AllByRecursion (HasVariable labelled.program method) xs →
    AllByRecursion (IntegFlows label) (map (label_of labelled) xs) →
    AllByRecursion (AffectsVariable labelled label) xs
variables_affected labelled label method [] many there flows = tt
variables_affected labelled label method (x ∷ xs) many there flows = (
  variable_affected labelled label method x many there.0 flows.0,
  variables_affected labelled label method xs many there.1 flows.1,
)

any_affected : (labelled : Labelled) (label : Label) (method : MethodId) (found : Option VarId) →
    length labelled.var_labels ≡ length labelled.program.vars → HasOptionalVariable labelled.program method found →
    AllByRecursion (IntegFlows label) (labels_of labelled found) → AffectsIfAny labelled label found
any_affected labelled label method None many there flows = tt
any_affected labelled label method (Some x) many there flows =
    variable_affected labelled label method x many there flows.0

-- ---- what statements bring about

-- a call sets the parameters and what keeps the result, and starts the body of the method, which its head stands for
pub record BringsCall (labelled : Labelled) (planned : PlannedShape) (label : Label) (called : Option MethodTree)
    (into : Option VarId) : Type 0 where
  pub params : AllByRecursion (AffectsVariable labelled label) (params_of called)
  pub kept : AffectsIfAny labelled label into
  pub head : IsTrustedBy label (need_of_method planned called)
  pub body : MayRunAll planned label (all_due (body_of called))

-- a statement of a method with this result
abbrev pub Brings : Labelled → PlannedShape → Label → Option VarId → BlockTree → Type 0
Brings labelled planned label result done = ⊤
Brings labelled planned label result (set_local heading x value rest) = AffectsVariable labelled label x
Brings labelled planned label result (set_field heading field value rest) = AffectsField labelled label field
Brings labelled planned label result (set_element heading field index value rest) = AffectsField labelled label field
Brings labelled planned label result (branch heading guard first second rest) =
    MayRunAll planned label (all_due first) × MayRunAll planned label (all_due second)
Brings labelled planned label result (loop heading guard inner rest) = MayRunAll planned label (all_due inner)
Brings labelled planned label result (call heading site method arguments into rest) =
    BringsCall labelled planned label (method_at planned.program method) into
Brings labelled planned label result (give_back heading value rest) = AffectsIfAny labelled label result

param_affected : (labelled : Labelled) (label : Label) (x : VarId) (params : List VarId) →
    AllByRecursion (AffectsVariable labelled label) params → IsParam x params → AffectsVariable labelled label x
param_affected labelled label x [] all never = absurd never
param_affected labelled label x (param ∷ params) all (inl same) = subst (AffectsVariable labelled label) same all.0
param_affected labelled label x (param ∷ params) all (inr later) =
    param_affected labelled label x params all.1 later

-- the host affects what the statement gives its value
pub given_affected : (labelled : Labelled) (planned : PlannedShape) (label : Label) (method : MethodId)
    (statement : BlockTree) (x : VarId) →
    Brings labelled planned label (result_of (method_at planned.program method)) statement →
    GivesIn planned method statement x → AffectsVariable labelled label x
given_affected labelled planned label method (set_local heading y value rest) x own is =
    subst (AffectsVariable labelled label) is own
given_affected labelled planned label method (call heading site called arguments into rest) x own (inl same) =
    subst (AffectsIfAny labelled label) same own.kept
given_affected labelled planned label method (call heading site called arguments into rest) x own (inr is) =
    param_affected labelled label x (params_of (method_at planned.program called)) own.params is
given_affected labelled planned label method (give_back heading value rest) x own is =
    subst (AffectsIfAny labelled label) is own
given_affected labelled planned label method _ x own is = absurd is

-- and the field to which it stores
pub stored_affected : (labelled : Labelled) (planned : PlannedShape) (label : Label) (result : Option VarId)
    (statement : BlockTree) (field : FieldId) → Brings labelled planned label result statement →
    StoresTo statement field → AffectsField labelled label field
stored_affected labelled planned label result (set_field heading to value rest) field own is =
    subst (AffectsField labelled label) is own
stored_affected labelled planned label result (set_element heading to index value rest) field own is =
    subst (AffectsField labelled label) is own
stored_affected labelled planned label result _ field own is = absurd is

-- and is trusted for what it starts
pub started_open : (labelled : Labelled) (planned : PlannedShape) (label : Label) (result : Option VarId)
    (statement : BlockTree) → Brings labelled planned label result statement →
    MayRunAll planned label (started planned statement)
started_open labelled planned label result (branch heading guard first second rest) own =
    all_both (λ item. MayRun planned label (statement_due item)) (all_due first) (all_due second) own.0 own.1
started_open labelled planned label result (loop heading guard inner rest) own = own
started_open labelled planned label result (call heading site method arguments into rest) own = own.body
started_open labelled planned label result _ own = tt

-- ---- what is known of a program

pub record IsMethodKnown (labelled : Labelled) (planned : PlannedShape) (principals : Declared) (place : ℕ)
    (tree : MethodTree) : Type 0 where
  pub numbered : IsMethodIn labelled.program (record { 0 = place }) tree
  pub needed : AreNeeded planned principals (method_uses principals labelled tree)
  pub backed : AreBackedBy planned principals (for_label tree.begin ∷ []) (statements_of tree.body)
  pub in_it : AllByRecursion (IsOf labelled.program) (all_statements tree.body)

pub record IsKnown (labelled : Labelled) (planned : PlannedShape) (principals : Declared) : Type 0 where
  pub many : length labelled.var_labels ≡ length labelled.program.vars
  pub methods : (place : ℕ) (tree : MethodTree) → slice_get labelled.program.methods place ≡ Some tree →
      IsMethodKnown labelled planned principals place tree

pub program_known : (placed : PlacedProgram) → IsSplittable placed → IsAllowed placed →
    IsKnown placed.labelled (planned_from placed) placed.hosts.principals
program_known placed splittable allowed = record {
  many = splittable.var_labels;
  methods = λ place tree is. record {
    numbered = method_there placed.labelled.program placed.labelled.program.methods 0 allowed.numbered.methods place
        place tree
        (omega arith) is;
    needed = part_of_all (IsNeeded planned placed.hosts.principals)
        (method_uses placed.hosts.principals placed.labelled)
        placed.labelled.program.methods (allowed_needed placed allowed) place tree is;
    backed = allowed_bodies placed allowed place tree is;
    in_it = body_of_program placed.labelled.program (record { 0 = place }) tree is;
  };
}
  where
    planned : PlannedShape
    planned = planned_from placed

-- ---- blocks

module _ (placed : PlacedProgram) (label : Label) where
  abbrev planned : PlannedShape
  planned = planned_from placed

  abbrev principals : Declared
  principals = placed.hosts.principals

  abbrev need_at : StmtId → ℕ
  need_at id = slice_index placed.needs.need id.0

  -- what asks for no more than those who trust the label
  run_where : (backing : List Backing) →
      ((p : ℕ) → p < READERS → Any (Backs principals p) backing → Trusts label p) → (trees : List BlockTree) →
      AllByRecursion (IsOf placed.labelled.program) trees → AreBackedBy planned principals backing trees →
      MayRunAll planned label (map run trees)
  run_where backing trusts [] in_it backed = tt
  run_where backing trusts (tree ∷ trees) in_it backed = (
    (λ p p_in set. trusts p p_in (backed.0 p p_in set), in_it.0),
    run_where backing trusts trees in_it.1 backed.1,
  )

  -- a block in a statement, of whose need it is a part
  inside_open : (id : StmtId) (own inner inside : List Backing) → IsNeed principals (own ++ inside) (need_at id) →
      IsTrustedBy label (need_at id) →
      ((p : ℕ) → Any (Backs principals p) inner → Any (Backs principals p) inside) → (p : ℕ) → p < READERS →
      Any (Backs principals p) inner → Trusts label p
  inside_open id own inner inside need trusted within p p_in some =
      trusted p p_in ((need.members p p_in).1 (any_right (Backs principals p) own inside (within p some)))

  call_brings : IsKnown placed.labelled planned principals → (method called : MethodId) (found : Option MethodTree)
      (into : Option VarId) → method_at placed.labelled.program called ≡ found →
      HasOptionalVariable placed.labelled.program method into →
      AllByRecursion (IntegFlows label)
      (begin_label found ∷ map (label_of placed.labelled) (params_of found) ++ labels_of placed.labelled into) →
      BringsCall placed.labelled planned label found into
  call_brings known method called None into is into_there flows = record {
    params = tt;
    kept = any_affected placed.labelled label method into known.many into_there flows.1;
    head = none_needed label;
    body = tt;
  }
  call_brings known method called (Some tree) into is into_there flows =
      let own = known.methods called.0 tree is in
      let params = map (label_of placed.labelled) tree.params in
      record {
        params = variables_affected placed.labelled label called tree.params known.many own.numbered.params
            (all_first (IntegFlows label) params (labels_of placed.labelled into) flows.1);
        kept = any_affected placed.labelled label method into known.many into_there
            (all_second (IntegFlows label) params (labels_of placed.labelled into) flows.1);
        head = head_needed planned principals label tree.head tree.begin own.needed.0.need flows.0;
        body = run_where (for_label tree.begin ∷ [])
            (λ p p_in some. elim (any_first (Backs principals p) (for_label tree.begin) [] some) [
              | inl trusts ↦ flows.0 p p_in trusts
              | inr nobody ↦ absurd (any_none (Backs principals p) nobody)
            ])
            (statements_of tree.body) (of_block (IsOf placed.labelled.program) tree.body own.in_it) own.backed;
      }

  abbrev IsBrought : Option VarId → BlockTree → Type 0
  IsBrought result statement =
      IsTrustedBy label (need_at (number_of statement)) → Brings placed.labelled planned label result statement

  block_brings : IsKnown placed.labelled planned principals → (method : MethodId) (gives : Bool) (tree : MethodTree) →
      HasOptionalVariable placed.labelled.program method tree.result → (block : BlockTree) →
      IsBlockIn placed.labelled.program method gives block →
      AllByRecursion (IsOf placed.labelled.program) (all_statements block) →
      AreNeeded planned principals (block_uses placed.labelled (setting_of principals placed.labelled.program tree)
      block) →
      AllByRecursion (IsBrought tree.result) (all_statements block)
  block_brings known method gives tree result_there done there in_it needed = tt
  block_brings known method gives tree result_there (set_local heading x value rest) there in_it needed =
      let setting = setting_of principals placed.labelled.program tree in (
        λ trusted. variable_affected placed.labelled label method x known.many there.0
            (changes_all principals label (need_at heading.id) trusted (label_of placed.labelled x ∷ [])
            (for_releases setting (value ∷ [])) [] needed.0.need).0,
        block_brings known method gives tree result_there rest there.2 in_it.1 needed.1,
      )
  block_brings known method gives tree result_there (set_field heading field value rest) there in_it needed =
      let setting = setting_of principals placed.labelled.program tree in (
        λ trusted. field_affected placed.labelled label _ field there.0
            (changes_all principals label (need_at heading.id) trusted (field_label placed.labelled.program field ∷ [])
            (for_releases setting (value ∷ [])) [] needed.0.need).0,
        block_brings known method gives tree result_there rest there.2 in_it.1 needed.1,
      )
  block_brings known method gives tree result_there (set_element heading field index value rest) there in_it needed =
      let setting = setting_of principals placed.labelled.program tree in (
        λ trusted. field_affected placed.labelled label _ field there.0
            (changes_all principals label (need_at heading.id) trusted (field_label placed.labelled.program field ∷ [])
            (for_releases setting (index ∷ value ∷ [])) [] needed.0.need).0,
        block_brings known method gives tree result_there rest there.3 in_it.1 needed.1,
      )
  block_brings known method gives tree result_there (branch heading guard first second rest) there in_it needed =
      let setting = setting_of principals placed.labelled.program tree in
      let Q = IsOf placed.labelled.program in
      let in_first = all_first Q (all_statements first) (all_statements second ++ all_statements rest) in_it.1 in
      let after = all_second Q (all_statements first) (all_statements second ++ all_statements rest) in_it.1 in
      let in_second = all_first Q (all_statements second) (all_statements rest) after in
      let in_rest = all_second Q (all_statements second) (all_statements rest) after in
      let one = block_uses placed.labelled setting first in
      let two = block_uses placed.labelled setting second in
      let others = block_uses placed.labelled setting rest in
      let inside = all_first (IsNeeded planned principals) (one ++ two) others needed.1 in
      let one_needed = all_first (IsNeeded planned principals) one two inside in
      let two_needed = all_second (IsNeeded planned principals) one two inside in
      let rest_needed = all_second (IsNeeded planned principals) (one ++ two) others needed.1 in
      let own = for_releases setting (guard ∷ []) in
      let back : StatementUse → List Backing = λ it. it.backing in
      let split : all_backing (one ++ two) ≡ all_backing one ++ all_backing two = flat_map-append back one two in
      let P : ℕ → List Backing → Type 0 = λ p list. Any (Backs principals p) list in
      let R = IsBrought tree.result in (
        λ trusted. (
          run_where (all_backing one) (inside_open heading.id own (all_backing one) (all_backing (one ++ two))
              needed.0.need trusted (λ p some. subst (P p) (sym split)
              (any_left (Backs principals p) (all_backing one) (all_backing two) some)))
              (statements_of first) (of_block Q first in_first)
              (own_backed planned principals placed.labelled setting first one_needed),
          run_where (all_backing two) (inside_open heading.id own (all_backing two) (all_backing (one ++ two))
              needed.0.need trusted (λ p some. subst (P p) (sym split)
              (any_right (Backs principals p) (all_backing one) (all_backing two) some)))
              (statements_of second) (of_block Q second in_second)
              (own_backed planned principals placed.labelled setting second two_needed),
        ),
        all_both R (all_statements first) (all_statements second ++ all_statements rest)
            (block_brings known method gives tree result_there first there.1 in_first one_needed)
            (all_both R (all_statements second) (all_statements rest)
            (block_brings known method gives tree result_there second there.2 in_second two_needed)
            (block_brings known method gives tree result_there rest there.3 in_rest rest_needed)),
      )
  block_brings known method gives tree result_there (loop heading guard inner rest) there in_it needed =
      let setting = setting_of principals placed.labelled.program tree in
      let Q = IsOf placed.labelled.program in
      let in_inner = all_first Q (all_statements inner) (all_statements rest) in_it.1 in
      let in_rest = all_second Q (all_statements inner) (all_statements rest) in_it.1 in
      let one = block_uses placed.labelled setting inner in
      let others = block_uses placed.labelled setting rest in
      let one_needed = all_first (IsNeeded planned principals) one others needed.1 in
      let own = for_releases setting (guard ∷ []) in
      let R = IsBrought tree.result in (
        λ trusted. run_where (all_backing one)
            (inside_open heading.id own (all_backing one) (all_backing one) needed.0.need trusted (λ p some. some))
            (statements_of inner) (of_block Q inner in_inner)
            (own_backed planned principals placed.labelled setting inner one_needed),
        all_both R (all_statements inner) (all_statements rest)
            (block_brings known method gives tree result_there inner there.1 in_inner one_needed)
            (block_brings known method gives tree result_there rest there.2 in_rest
            (all_second (IsNeeded planned principals) one others needed.1)),
      )
  block_brings known method gives tree result_there (call heading site called arguments into rest) there in_it needed =
      let setting = setting_of principals placed.labelled.program tree in
      let found = method_at placed.labelled.program called in (
        λ trusted. call_brings known method called found into refl there.2
            (changes_all principals label (need_at heading.id) trusted
            (begin_label found ∷ map (label_of placed.labelled) (params_of found) ++ labels_of placed.labelled into)
            (for_releases setting arguments) [] needed.0.need),
        block_brings known method gives tree result_there rest there.3 in_it.1 needed.1,
      )
  block_brings known method gives tree result_there (give_back heading value rest) there in_it needed =
      let setting = setting_of principals placed.labelled.program tree in (
        λ trusted. any_affected placed.labelled label method tree.result known.many result_there
            (changes_all principals label (need_at heading.id) trusted (labels_of placed.labelled tree.result)
            (for_releases setting (value ∷ [])) [] needed.0.need),
        block_brings known method gives tree result_there rest there.2 in_it.1 needed.1,
      )

  -- ---- methods

  -- what all statements have, that one of them has
  one_of_all : (P : BlockTree → Type 0) (statement : BlockTree) (xs : List BlockTree) → AllByRecursion P xs →
      Any (λ one. one ≡ statement) xs → P statement
  one_of_all P statement [] all some = absurd (any_none (λ one. one ≡ statement) some)
  one_of_all P statement (x ∷ xs) all some = elim (any_first (λ one. one ≡ statement) x xs some) [
    | inl same ↦ subst P same all.0
    | inr later ↦ one_of_all P statement xs all.1 later
  ]

  -- a host that is trusted for a statement of a method
  pub statement_brings : IsKnown placed.labelled planned principals → (method : MethodId) (statement : BlockTree) →
      IsStatementOfMethod placed.labelled.program method statement → IsTrustedBy label (need_at (number_of statement)) →
      Brings placed.labelled planned label (result_of (method_at placed.labelled.program method)) statement
  statement_brings known method statement is_in trusted = by (method_at placed.labelled.program method) refl is_in
    where
      by : (found : Option MethodTree) → method_at placed.labelled.program method ≡ found →
          IsSomeAnd found (λ tree. Any (λ one. one ≡ statement) (all_statements tree.body)) →
          Brings placed.labelled planned label (result_of found) statement
      by None is never = absurd never
      by (Some tree) is some =
          let own = known.methods method.0 tree is in
          one_of_all (IsBrought tree.result) statement (all_statements tree.body)
          (block_brings known method (is_some tree.result) tree own.numbered.result tree.body own.numbered.body
          own.in_it own.needed.1) some trusted
