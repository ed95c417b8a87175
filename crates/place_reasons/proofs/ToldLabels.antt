-- What is told of a field is the first pair of what its reads tell by the definition of needs.
use Rattle.std.proofs.Common.{◌≡◌, inl, inr, ℕ, Bool, true, false, List, [], ◌∷◌, ◌++◌, map, filter, flat_map, refl, sym}
use Rattle.std.proofs.Common.{ap, ap₂, ◌∙◌}
use Rattle.std.specs.Prelude.{if◌then◌else◌, nat_eq, Option, Some, None}
use Rattle.std.specs.Option.{option_map}
use Rattle.std.proofs.lemmas.Bool.{cases_Bool}
use Rattle.std.proofs.lemmas.List.Concat.{flat_map-cons}
use Rattle.std.proofs.lemmas.Grind.{flat_map-append}
use Rattle.js_base.specs.declared.ids.FieldId.{FieldId}
use Rattle.js_base.specs.declared.ids.StmtId.{StmtId}
use Rattle.principals.specs.ActsFor.{Declared}
use Rattle.label_lattice.specs.declared.label.Label.{Label}
use Rattle.jif_tree.specs.Trees.{ExprTree, number, local, scalar, element, inverted, negated, binary, declassified}
use Rattle.jif_tree.specs.Trees.{endorsed, BlockTree, done, set_local, set_field, set_element, branch, loop, call}
use Rattle.jif_tree.specs.Trees.{give_back, MethodTree}
use Rattle.jif_tree.specs.LabelRules.{field_label, method_at, begin_label, params_of, setting_of}
use Rattle.label_reasons.specs.declared.reason.Trait.{Trait}
use Rattle.need_labels.specs.Labelled.{Labelled}
use Rattle.need_labels.specs.Needs.{Telling, StatementUse, tellings_in, statement_use, label_of, labels_of, kept_result}
use Rattle.need_labels.specs.Needs.{all_backing, block_uses, method_uses, for_label}
use Rattle.place_reasons.specs.declared.told.Told.{Told}
use Rattle.place_reasons.specs.declared.told.Told.TheVariants.{Read, Index}
use Rattle.place_reasons.specs.Firsts.{or_first, first_some}
use Rattle.place_reasons.specs.Reasons.{Site, site_of, pc_at, label_at, pair_at, first_pair, run_told, index_told, told_in}
use Rattle.place_reasons.specs.Reasons.{block_told, method_told}
use Rattle.place_reasons.specs.Search.{told_pair}
use Rattle.place_reasons.proofs.Firsts.{or_none, or_assoc, first_in_two}

-- the first pair of what a read tells, where it is of the field
abbrev pub telling_pair : Declared → Label → FieldId → Telling → Option Trait
telling_pair principals host wanted telling =
    if nat_eq telling.field.0 wanted.0 then first_pair principals telling.label host else None

abbrev make_at : Site → FieldId → Telling → Option Trait
make_at site wanted telling = telling_pair site.principals site.host wanted telling

abbrev told_first : Option Told → Option Trait
told_first found = option_map told_pair found

told_or : (first second : Option Told) →
    told_first (or_first first second) ≡ or_first (told_first first) (told_first second)
told_or None second = refl
told_or (Some told) second = refl

made_same : (make : Trait → Told) (found : Option Trait) → ((pair : Trait) → told_pair (make pair) ≡ pair) →
    told_first (option_map make found) ≡ found
made_same make None same = refl
made_same make (Some pair) same = ap Some (same pair)

if_same : (test : Bool) (make : Trait → Told) (found : Option Trait) → ((pair : Trait) → told_pair (make pair) ≡ pair) →
    told_first (if test then option_map make found else None) ≡ (if test then found else None)
if_same true make found same = made_same make found same
if_same false make found same = refl

run_same : (site : Site) (wanted : FieldId) (here : StmtId) (field : FieldId) →
    told_first (run_told site wanted here field)
    ≡ make_at site wanted (record { field = field; label = pc_at site here })
run_same site wanted here field =
    if_same (nat_eq field.0 wanted.0) (λ pair. Read pair here) (pair_at site (pc_at site here)) (λ pair. refl)

index_same : (site : Site) (wanted : FieldId) (here : StmtId) (field : FieldId) (index : ExprTree) →
    told_first (index_told site wanted here field index)
    ≡ make_at site wanted (record { field = field; label = label_at site here index })
index_same site wanted here field index =
    if_same (nat_eq field.0 wanted.0) (λ pair. Index pair here) (pair_at site (label_at site here index)) (λ pair. refl)

expr_same : (site : Site) (wanted : FieldId) (here : StmtId) (value : ExprTree) →
    told_first (told_in site wanted here value)
    ≡ first_some (make_at site wanted) (tellings_in site.setting site.labelled (pc_at site here) value)
expr_same site wanted here (number value) = refl
expr_same site wanted here (local x) = refl
expr_same site wanted here (scalar field) =
    run_same site wanted here field
    ∙ sym (or_none (make_at site wanted (record { field = field; label = pc_at site here })))
expr_same site wanted here (element field index) =
    let run : Telling = record { field = field; label = pc_at site here } in
    let which : Telling = record { field = field; label = label_at site here index } in
    told_or (told_in site wanted here index)
    (or_first (run_told site wanted here field) (index_told site wanted here field index))
    ∙ ap₂ or_first (expr_same site wanted here index)
    (told_or (run_told site wanted here field) (index_told site wanted here field index)
    ∙ ap₂ or_first (run_same site wanted here field)
    (index_same site wanted here field index ∙ sym (or_none (make_at site wanted which))))
    ∙ sym (first_in_two (make_at site wanted) (tellings_in site.setting site.labelled (pc_at site here) index)
    (run ∷ which ∷ []))
expr_same site wanted here (inverted operand) = expr_same site wanted here operand
expr_same site wanted here (negated operand) = expr_same site wanted here operand
expr_same site wanted here (binary operator left right) =
    told_or (told_in site wanted here left) (told_in site wanted here right)
    ∙ ap₂ or_first (expr_same site wanted here left) (expr_same site wanted here right)
    ∙ sym (first_in_two (make_at site wanted) (tellings_in site.setting site.labelled (pc_at site here) left)
    (tellings_in site.setting site.labelled (pc_at site here) right))
expr_same site wanted here (declassified operand label) = expr_same site wanted here operand
expr_same site wanted here (endorsed operand label) = expr_same site wanted here operand

exprs_same : (site : Site) (wanted : FieldId) (here : StmtId) (values : List ExprTree) →
    told_first (first_some (told_in site wanted here) values)
    ≡ first_some (make_at site wanted) (flat_map (tellings_in site.setting site.labelled (pc_at site here)) values)
exprs_same site wanted here [] = refl
exprs_same site wanted here (value ∷ values) =
    let tellings : ExprTree → List Telling = tellings_in site.setting site.labelled (pc_at site here) in
    told_or (told_in site wanted here value) (first_some (told_in site wanted here) values)
    ∙ ap₂ or_first (expr_same site wanted here value) (exprs_same site wanted here values)
    ∙ sym (first_in_two (make_at site wanted) (tellings value) (flat_map tellings values))
    ∙ sym (ap (first_some (make_at site wanted)) (flat_map-cons tellings value values))

-- ---- statements

abbrev pub tellings_of : List StatementUse → List Telling
tellings_of uses = flat_map (λ one. one.tellings) uses

uses_cons : (make : Telling → Option Trait) (one : StatementUse) (uses : List StatementUse) →
    first_some make (tellings_of (one ∷ uses))
    ≡ or_first (first_some make one.tellings) (first_some make (tellings_of uses))
uses_cons make one uses =
    ap (first_some make) (flat_map-cons (λ (item : StatementUse). item.tellings) one uses)
    ∙ first_in_two make one.tellings (tellings_of uses)

uses_two : (make : Telling → Option Trait) (first second : List StatementUse) →
    first_some make (tellings_of (first ++ second))
    ≡ or_first (first_some make (tellings_of first)) (first_some make (tellings_of second))
uses_two make first second =
    ap (first_some make) (flat_map-append (λ (item : StatementUse). item.tellings) first second)
    ∙ first_in_two make (tellings_of first) (tellings_of second)

-- a statement, and what follows it
plain_same : (site : Site) (wanted : FieldId) (one : StatementUse) (uses : List StatementUse) (own rest : Option Told) →
    told_first own ≡ first_some (make_at site wanted) one.tellings →
    told_first rest ≡ first_some (make_at site wanted) (tellings_of uses) →
    told_first (or_first own rest) ≡ first_some (make_at site wanted) (tellings_of (one ∷ uses))
plain_same site wanted one uses own rest is also =
    told_or own rest ∙ ap₂ or_first is also ∙ sym (uses_cons (make_at site wanted) one uses)

joined_same : (site : Site) (wanted : FieldId) (first second : List StatementUse) (one two : Option Told) →
    told_first one ≡ first_some (make_at site wanted) (tellings_of first) →
    told_first two ≡ first_some (make_at site wanted) (tellings_of second) →
    told_first (or_first one two) ≡ first_some (make_at site wanted) (tellings_of (first ++ second))
joined_same site wanted first second one two is also =
    told_or one two ∙ ap₂ or_first is also ∙ sym (uses_two (make_at site wanted) first second)

block_same : (site : Site) (wanted : FieldId) (block : BlockTree) →
    told_first (block_told site wanted block)
    ≡ first_some (make_at site wanted) (tellings_of (block_uses site.labelled site.setting block))
block_same site wanted done = refl
block_same site wanted (set_local heading x value rest) =
    plain_same site wanted
    (statement_use site.labelled site.setting heading.id (value ∷ []) [] (label_of site.labelled x ∷ []) [])
    (block_uses site.labelled site.setting rest) _ (block_told site wanted rest)
    (exprs_same site wanted heading.id (value ∷ [])) (block_same site wanted rest)
block_same site wanted (set_field heading field value rest) =
    plain_same site wanted
    (statement_use site.labelled site.setting heading.id (value ∷ []) []
    (field_label site.labelled.program field ∷ []) [])
    (block_uses site.labelled site.setting rest) _ (block_told site wanted rest)
    (exprs_same site wanted heading.id (value ∷ [])) (block_same site wanted rest)
block_same site wanted (set_element heading field index value rest) =
    plain_same site wanted
    (statement_use site.labelled site.setting heading.id (index ∷ value ∷ []) []
    (field_label site.labelled.program field ∷ []) [])
    (block_uses site.labelled site.setting rest) _ (block_told site wanted rest)
    (exprs_same site wanted heading.id (index ∷ value ∷ [])) (block_same site wanted rest)
block_same site wanted (branch heading guard first second rest) =
    let uses : BlockTree → List StatementUse = block_uses site.labelled site.setting in
    let told : BlockTree → Option Told = block_told site wanted in
    plain_same site wanted
    (statement_use site.labelled site.setting heading.id (guard ∷ []) [] [] (all_backing (uses first ++ uses second)))
    ((uses first ++ uses second) ++ uses rest) _ (or_first (told first) (or_first (told second) (told rest)))
    (exprs_same site wanted heading.id (guard ∷ []))
    (ap told_first (sym (or_assoc (told first) (told second) (told rest)))
    ∙ joined_same site wanted (uses first ++ uses second) (uses rest) (or_first (told first) (told second)) (told rest)
    (joined_same site wanted (uses first) (uses second) (told first) (told second) (block_same site wanted first)
    (block_same site wanted second)) (block_same site wanted rest))
block_same site wanted (loop heading guard body rest) =
    let uses : BlockTree → List StatementUse = block_uses site.labelled site.setting in
    plain_same site wanted
    (statement_use site.labelled site.setting heading.id (guard ∷ []) [] [] (all_backing (uses body)))
    (uses body ++ uses rest) _ (or_first (block_told site wanted body) (block_told site wanted rest))
    (exprs_same site wanted heading.id (guard ∷ []))
    (joined_same site wanted (uses body) (uses rest) (block_told site wanted body) (block_told site wanted rest)
    (block_same site wanted body) (block_same site wanted rest))
block_same site wanted (call heading place method arguments into rest) =
    let called = method_at site.labelled.program method in
    plain_same site wanted
    (statement_use site.labelled site.setting heading.id arguments
    (begin_label called ∷ kept_result site.labelled called into)
    (begin_label called ∷ map (label_of site.labelled) (params_of called) ++ labels_of site.labelled into) [])
    (block_uses site.labelled site.setting rest) _ (block_told site wanted rest)
    (exprs_same site wanted heading.id arguments) (block_same site wanted rest)
block_same site wanted (give_back heading value rest) =
    plain_same site wanted
    (statement_use site.labelled site.setting heading.id (value ∷ []) []
    (labels_of site.labelled site.setting.result) [])
    (block_uses site.labelled site.setting rest) _ (block_told site wanted rest)
    (exprs_same site wanted heading.id (value ∷ [])) (block_same site wanted rest)

-- ---- programs

method_same : (principals : Declared) (labelled : Labelled) (host : Label) (wanted : FieldId) (method : MethodTree) →
    told_first (method_told principals labelled host wanted method)
    ≡ first_some (telling_pair principals host wanted) (tellings_of (method_uses principals labelled method))
method_same principals labelled host wanted method =
    let site : Site = site_of principals labelled host method in
    block_same site wanted method.body
    ∙ sym (uses_cons (telling_pair principals host wanted) (record {
      id = method.head;
      used = method.begin;
      backing = for_label method.begin ∷ [];
      tellings = [];
      reads = [];
    }) (block_uses labelled (setting_of principals labelled.program method) method.body))

pub methods_same : (principals : Declared) (labelled : Labelled) (host : Label) (wanted : FieldId)
    (methods : List MethodTree) →
    told_first (first_some (method_told principals labelled host wanted) methods)
    ≡ first_some (telling_pair principals host wanted) (tellings_of (flat_map (method_uses principals labelled) methods))
methods_same principals labelled host wanted [] = refl
methods_same principals labelled host wanted (method ∷ methods) =
    let make : Telling → Option Trait = telling_pair principals host wanted in
    let uses : MethodTree → List StatementUse = method_uses principals labelled in
    told_or (method_told principals labelled host wanted method)
    (first_some (method_told principals labelled host wanted) methods)
    ∙ ap₂ or_first (method_same principals labelled host wanted method)
    (methods_same principals labelled host wanted methods)
    ∙ sym (uses_two make (uses method) (flat_map uses methods))
    ∙ sym (ap (λ all. first_some make (tellings_of all)) (flat_map-cons uses method methods))

-- the labels that are told of a field
abbrev pub told_labels : List Telling → ℕ → List Label
told_labels tellings field =
    map (λ telling. telling.label) (filter (λ telling. nat_eq telling.field.0 field) tellings)

pub labels_same : (principals : Declared) (host : Label) (wanted : FieldId) (tellings : List Telling) →
    first_some (telling_pair principals host wanted) tellings
    ≡ first_some (λ label. first_pair principals label host) (told_labels tellings wanted.0)
labels_same principals host wanted [] = refl
labels_same principals host wanted (telling ∷ tellings) =
    let rest = labels_same principals host wanted tellings in
    elim (cases_Bool (nat_eq telling.field.0 wanted.0)) [
      | inl is ↦ rw is (ap (or_first (first_pair principals telling.label host)) rest)
      | inr other ↦ rw other rest
    ]
