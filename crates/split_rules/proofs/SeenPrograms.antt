-- Each method of a program that was checked and placed asks other hosts for what these grant, and tells them what they
-- may see.
use Rattle.std.proofs.Common.{◌≡◌, ◌∙◌, ℕ, zero, suc, ◌<◌, Bool, true, false, inl, inr, List, [], ◌∷◌, ◌++◌, map}
use Rattle.std.proofs.Common.{length, refl, ap, sym, subst, arith, nat_eq, cond, filter, true≢false, eqb-true}
use Rattle.std.proofs.Common.{eq-eqb, get_or}
use Rattle.std.specs.Prelude.{Option, Some, None, slice_get, slice_index, unwrap_or}
use Rattle.std.specs.List.{AllByRecursion, flat_map, fold, list_any, range_with_len, zip}
use Rattle.std.specs.Option.{IsSomeAnd, option_map}
use Rattle.std.proofs.lemmas.List.{map-append, length-map, get_or-map}
use Rattle.std.proofs.lemmas.List.FromFn.{length-range_with_len, get_or-range_with_len}
use Rattle.std.proofs.lemmas.Option.{slice_get-map, slice_get_within, get_or_from_slice_get}
use Rattle.js_base.specs.declared.ids.HostId.{HostId}
use Rattle.js_base.specs.declared.ids.FieldId.{FieldId}
use Rattle.js_base.specs.declared.ids.VarId.{VarId}
use Rattle.js_base.specs.declared.ids.StmtId.{StmtId}
use Rattle.principals.specs.ActsFor.{Declared}
use Rattle.label_lattice.specs.declared.label.Label.{Label}
use Rattle.label_lattice.specs.Label.{ConfFlows, IntegFlows, IsTrustedBy}
use Rattle.label_lattice.specs.Lattice.{join_of, bottom_of, empty_label}
use Rattle.host_decl.specs.Hosts.{HostShape}
use Rattle.jif_tree.specs.Trees.{ExprTree, BlockTree, done, set_local, set_field, set_element, branch, loop, call}
use Rattle.jif_tree.specs.Trees.{give_back, FieldTree, MethodTree, ProgramTree}
use Rattle.jif_tree.specs.LabelRules.{MethodSetting, VariableLabels, StatementLabels, setting_of, part_labels, guarded}
use Rattle.jif_tree.specs.LabelRules.{labels_after, labels_after_assignment, labels_after_methods, block_labels}
use Rattle.jif_tree.specs.LabelRules.{methods_labels, program_labels, declared_labels, field_label, expr_label, Meets}
use Rattle.jif_tree.specs.LabelRules.{obligations_of, begin_label, params_of, method_at}
use Rattle.jif_tree.specs.Numbering.{block_statements, statement_numbers, CountsFrom}
use Rattle.jif_tree.specs.WellNumbered.{AreMethodsIn, is_some}
use Rattle.need_labels.specs.Labelled.{Labelled, pc_of, all_labels}
use Rattle.need_labels.specs.Needs.{StatementUse, Telling, statement_use, block_uses, method_uses}
use Rattle.need_labels.specs.Needs.{statement_uses, told_of, readers_of, variables_in, label_of, labels_of, kept_result}
use Rattle.need_labels.specs.Needs.{Backing, for_label, IsNeed, all_backing}
use Rattle.need_labels.specs.Plan.{first_host, statement_host, field_host}
use Rattle.need_labels.proofs.Ordered.{use_numbered}
use Rattle.msg_cost.specs.Moves.{PlannedShape}
use Rattle.jif_tree.specs.Labelling.{AreLabelledMethods}
use Rattle.jif_tree.specs.ValueLabels.{AreAllValuesLabelled}
use Rattle.jif_tree.proofs.LabelsKept.{block_stays, Stay}
use Rattle.split_rules.specs.Placed.{PlacedProgram, planned_from}
use Rattle.split_rules.specs.Allowed.{IsAllowed, IsTrustedHost}
use Rattle.split_rules.specs.Held.{HoldsField, HoldsStatement, IsWellHeld}
use Rattle.split_rules.specs.Splittable.{IsSplittable}
use Rattle.split_rules.specs.Walk.{need_of}
use Rattle.split_rules.proofs.Places.{same_host}
use Rattle.split_rules.proofs.NumberedLists.{number_there}
use Rattle.split_rules.proofs.WalkedCalls.{nothing_there}
use Rattle.split_rules.proofs.WalkedPrograms.{method_there}
use Rattle.split_rules.proofs.SoundInstructions.{mapped}
use Rattle.split_rules.proofs.BackedLabels.{all_first, all_second, all_both, AreMet, either_true}
use Rattle.split_rules.proofs.LabelsKept.{AreFinal}
use Rattle.split_rules.proofs.AllowedTyping.{by_recursion, each_there, zipped_there, met_from, use_needed, methods_stay}
use Rattle.split_rules.proofs.ToldEmissions.{Sees, Affects}
use Rattle.split_rules.proofs.ToldWalks.{MethodTellsWell}
use Rattle.split_rules.proofs.SeenLabels.{flows_first, flows_second, flows_folded, sees_less}
use Rattle.split_rules.proofs.SeenBlocks.{variables_of_parts, IsToldWell, IsUseWell, AllReadersSee}
use Rattle.split_rules.proofs.SeenBlocks.{ProgramWell, IsMet, IsKept, AreLabelsKept, AreUsesWell}
use Rattle.split_rules.proofs.SeenBlocks.{block_well}
use Rattle.split_rules.proofs.TrustedNeeds.{head_needed}

-- ---- lists

-- what all items are, that at a place is
pub all_there : {X : Type 0} (P : X → Type 0) (xs : List X) → AllByRecursion P xs → (place : ℕ) (x : X) →
    slice_get xs place ≡ Some x → P x
all_there P [] all place x is = absurd (nothing_there place x is)
all_there P (first ∷ xs) all zero x is = let same : first ≡ x = cc in subst P same all.0
all_there P (first ∷ xs) all (suc place) x is = all_there P xs all.1 place x is

-- what is made of an item is among what is made of all
pub part_of_all : {X Y : Type 0} (P : Y → Type 0) (make : X → List Y) (xs : List X) →
    AllByRecursion P (flat_map make xs) → (place : ℕ) (x : X) → slice_get xs place ≡ Some x →
    AllByRecursion P (make x)
part_of_all P make [] all place x is = absurd (nothing_there place x is)
part_of_all P make (first ∷ xs) all zero x is =
    let same : first ≡ x = cc in
    let Q : _ → Type 0 = λ it. AllByRecursion P (make it) in
    subst Q same (all_first P (make first) (flat_map make xs) all)
part_of_all P make (first ∷ xs) all (suc place) x is =
    part_of_all P make xs (all_second P (make first) (flat_map make xs) all) place x is

pub zip_at : {X Y : Type 0} (xs : List X) (ys : List Y) (place : ℕ) (x : X) (y : Y) → slice_get xs place ≡ Some x →
    slice_get ys place ≡ Some y → slice_get (zip xs ys) place ≡ Some (x, y)
zip_at [] ys place x y is also = absurd (nothing_there place x is)
zip_at (first ∷ xs) [] place x y is also = absurd (nothing_there place y also)
zip_at (first ∷ xs) (second ∷ ys) zero x y is also =
    let one : first ≡ x = cc in
    let two : second ≡ y = cc in
    ap (λ it. Some (it, second)) one ∙ ap (λ it. Some (x, it)) two
zip_at (first ∷ xs) (second ∷ ys) (suc place) x y is also = zip_at xs ys place x y is also

-- ---- the numbers of statements that are checked

abbrev number_of : StatementLabels → ℕ
number_of one = one.statement.0

block_ordered : (setting : MethodSetting) (pc : Label) (labels : VariableLabels) (block : BlockTree) →
    map number_of (block_labels setting pc labels block) ≡ block_statements block
block_ordered setting pc labels done = refl
block_ordered setting pc labels (set_local heading x value rest) =
    ap (λ (more : List ℕ). heading.id.0 ∷ more) (block_ordered setting pc
    (labels_after_assignment labels x (join_of (expr_label setting pc labels value) pc)) rest)
block_ordered setting pc labels (set_field heading field value rest) =
    ap (λ (more : List ℕ). heading.id.0 ∷ more) (block_ordered setting pc labels rest)
block_ordered setting pc labels (set_element heading field index value rest) =
    ap (λ (more : List ℕ). heading.id.0 ∷ more) (block_ordered setting pc labels rest)
block_ordered setting pc labels (branch heading guard first second rest) =
    let inside = guarded setting pc labels guard in
    let between = labels_after setting inside labels first in
    let behind = labels_after setting inside between second in
    let one = block_labels setting inside labels first in
    let two = block_labels setting inside between second in
    let three = block_labels setting pc behind rest in
    ap (λ (more : List ℕ). heading.id.0 ∷ more)
    (map-append number_of (one ++ two) three
    ∙ ap (λ (some : List ℕ). some ++ map number_of three)
    (map-append number_of one two
    ∙ ap (λ (some : List ℕ). some ++ map number_of two) (block_ordered setting inside labels first)
    ∙ ap (λ (some : List ℕ). block_statements first ++ some) (block_ordered setting inside between second))
    ∙ ap (λ (some : List ℕ). block_statements first ++ block_statements second ++ some)
    (block_ordered setting pc behind rest))
block_ordered setting pc labels (loop heading guard inner rest) =
    let inside = guarded setting pc labels guard in
    let behind = labels_after setting inside labels inner in
    let one = block_labels setting inside labels inner in
    let two = block_labels setting pc behind rest in
    ap (λ (more : List ℕ). heading.id.0 ∷ more)
    (map-append number_of one two
    ∙ ap (λ (some : List ℕ). some ++ map number_of two) (block_ordered setting inside labels inner)
    ∙ ap (λ (some : List ℕ). block_statements inner ++ some) (block_ordered setting pc behind rest))
block_ordered setting pc labels (call heading site method arguments into rest) =
    ap (λ (more : List ℕ). heading.id.0 ∷ more) (block_ordered setting pc labels rest)
block_ordered setting pc labels (give_back heading value rest) =
    ap (λ (more : List ℕ). heading.id.0 ∷ more) (block_ordered setting pc labels rest)

methods_ordered : (principals : Declared) (program : ProgramTree) (labels : VariableLabels)
    (methods : List MethodTree) →
    map number_of (methods_labels principals program labels methods)
    ≡ flat_map (λ method. method.head.0 ∷ block_statements method.body) methods
methods_ordered principals program labels [] = refl
methods_ordered principals program labels (method ∷ methods) =
    let setting = setting_of principals program method in
    let own = block_labels setting method.begin labels method.body in
    let after = labels_after setting method.begin labels method.body in
    let others = methods_labels principals program after methods in
    ap (λ (more : List ℕ). method.head.0 ∷ more)
    (map-append number_of own others
    ∙ ap (λ (some : List ℕ). some ++ map number_of others) (block_ordered setting method.begin labels method.body)
    ∙ ap (λ (some : List ℕ). block_statements method.body ++ some) (methods_ordered principals program after methods))

-- a statement that is checked has the number of its place
labels_numbered : (principals : Declared) (program : ProgramTree) → CountsFrom 0 (statement_numbers program) →
    (place : ℕ) (one : StatementLabels) → slice_get (program_labels principals program) place ≡ Some one →
    one.statement.0 ≡ place
labels_numbered principals program counts place one is =
    let all = program_labels principals program in
    let numbers = statement_numbers program in
    let ordered = methods_ordered principals program (declared_labels program) program.methods in
    let within : place < length all = slice_get_within all place one is in
    let many : length all ≡ length numbers = sym (length-map all number_of) ∙ ap length ordered in
    sym (ap number_of (get_or_from_slice_get all place one one is))
    ∙ sym (get_or-map number_of all place one 0 within)
    ∙ ap (λ (list : List ℕ). get_or list place 0) (ordered ∙ counts)
    ∙ get_or-range_with_len 0 (length numbers) place 0 (omega (arith, many, within))
    ∙ omega arith

-- the program label of a statement is that with which it is checked
pub labels_kept : (labelled : Labelled) (principals : Declared) → CountsFrom 0 (statement_numbers labelled.program) →
    labelled.pc ≡ map (λ one. one.pc) (program_labels principals labelled.program) →
    AreLabelsKept labelled (program_labels principals labelled.program)
labels_kept labelled principals counts pc_is =
    let all = program_labels principals labelled.program in
    let own : StatementLabels → Label = λ one. one.pc in
    each_there (λ (one : StatementLabels). pc_of labelled one.statement ≡ one.pc) all (λ place one is.
    ap (λ found. unwrap_or found empty_label)
    (ap (slice_get labelled.pc) (labels_numbered principals labelled.program counts place one is)
    ∙ ap (λ list. slice_get list place) pc_is ∙ slice_get-map own all place ∙ ap (option_map own) is))

-- ---- what flows into what a statement tells its host

abbrev ReadsFlow : Labelled → StatementUse → Type 0
ReadsFlow labelled one = AllByRecursion (λ x. ConfFlows (label_of labelled x) one.used) one.reads

variables_flow : (labelled : Labelled) (setting : MethodSetting) (pc to : Label) (exprs : List ExprTree) →
    AllByRecursion (λ label. ConfFlows label to) (flat_map (part_labels setting pc (all_labels labelled)) exprs) →
    AllByRecursion (λ x. ConfFlows (label_of labelled x) to) (flat_map variables_in exprs)
variables_flow labelled setting pc to [] flow = tt
variables_flow labelled setting pc to (expr ∷ exprs) flow =
    let P : Label → Type 0 = λ label. ConfFlows label to in
    let own = part_labels setting pc (all_labels labelled) expr in
    all_both (λ (x : VarId). ConfFlows (label_of labelled x) to) (variables_in expr) (flat_map variables_in exprs)
    (variables_of_parts labelled setting pc P expr (all_first P own _ flow))
    (variables_flow labelled setting pc to exprs (all_second P own _ flow))

statement_flows : (labelled : Labelled) (setting : MethodSetting) (id : StmtId) (exprs : List ExprTree)
    (told changed : List Label) (nested : List Backing) →
    ReadsFlow labelled (statement_use labelled setting id exprs told changed nested)
statement_flows labelled setting id exprs told changed nested =
    let pc = pc_of labelled id in
    let parts = flat_map (part_labels setting pc (all_labels labelled)) exprs in
    let to = fold join_of pc (parts ++ told) in
    variables_flow labelled setting pc to exprs
    (all_first (λ (label : Label). ConfFlows label to) parts told (flows_folded pc (parts ++ told)).1)

block_flows : (labelled : Labelled) (setting : MethodSetting) (block : BlockTree) →
    AllByRecursion (ReadsFlow labelled) (block_uses labelled setting block)
block_flows labelled setting done = tt
block_flows labelled setting (set_local heading x value rest) = (
  statement_flows labelled setting heading.id (value ∷ []) [] (label_of labelled x ∷ []) [],
  block_flows labelled setting rest,
)
block_flows labelled setting (set_field heading field value rest) = (
  statement_flows labelled setting heading.id (value ∷ []) [] (field_label labelled.program field ∷ []) [],
  block_flows labelled setting rest,
)
block_flows labelled setting (set_element heading field index value rest) = (
  statement_flows labelled setting heading.id (index ∷ value ∷ []) [] (field_label labelled.program field ∷ []) [],
  block_flows labelled setting rest,
)
block_flows labelled setting (branch heading guard first second rest) =
    let one = block_uses labelled setting first in
    let two = block_uses labelled setting second in (
      statement_flows labelled setting heading.id (guard ∷ []) [] [] (all_backing (one ++ two)),
      all_both (ReadsFlow labelled) (one ++ two) (block_uses labelled setting rest)
          (all_both (ReadsFlow labelled) one two (block_flows labelled setting first)
          (block_flows labelled setting second)) (block_flows labelled setting rest),
    )
block_flows labelled setting (loop heading guard inner rest) =
    let one = block_uses labelled setting inner in (
      statement_flows labelled setting heading.id (guard ∷ []) [] [] (all_backing one),
      all_both (ReadsFlow labelled) one (block_uses labelled setting rest) (block_flows labelled setting inner)
          (block_flows labelled setting rest),
    )
block_flows labelled setting (call heading site method arguments into rest) =
    let found = method_at labelled.program method in (
      statement_flows labelled setting heading.id arguments (begin_label found ∷ kept_result labelled found into)
          (begin_label found ∷ map (label_of labelled) (params_of found) ++ labels_of labelled into) [],
      block_flows labelled setting rest,
    )
block_flows labelled setting (give_back heading value rest) = (
  statement_flows labelled setting heading.id (value ∷ []) [] (labels_of labelled setting.result) [],
  block_flows labelled setting rest,
)

methods_flow : (principals : Declared) (labelled : Labelled) (methods : List MethodTree) →
    AllByRecursion (ReadsFlow labelled) (flat_map (method_uses principals labelled) methods)
methods_flow principals labelled [] = tt
methods_flow principals labelled (method ∷ methods) =
    let setting = setting_of principals labelled.program method in (
      tt,
      all_both (ReadsFlow labelled) (block_uses labelled setting method.body) _
          (block_flows labelled setting method.body) (methods_flow principals labelled methods),
    )

-- ---- who reads a variable

-- one of the reads is of the variable, so its label flows
read_flows : (labelled : Labelled) (x : VarId) (to : Label) (reads : List VarId) →
    AllByRecursion (λ y. ConfFlows (label_of labelled y) to) reads →
    list_any (λ read. nat_eq read.0 x.0) reads ≡ true → ConfFlows (label_of labelled x) to
read_flows labelled x to [] flow some = absurd (true≢false (sym some))
read_flows labelled x to (read ∷ reads) flow some =
    elim (either_true (nat_eq read.0 x.0) (list_any (λ (it : VarId). nat_eq it.0 x.0) reads) some) [
      | inl own ↦
          let P : ℕ → Type 0 = λ number. ConfFlows (label_of labelled (record { 0 = number })) to in
          subst P (eqb-true read.0 x.0 own) flow.0
      | inr later ↦ read_flows labelled x to reads flow.1 later
    ]

abbrev stands_at : PlannedShape → HostId → StmtId → Bool
stands_at planned to statement = nat_eq (statement_host planned.plan statement).0 to.0

reader_sees : (labelled : Labelled) (planned : PlannedShape) (principals : Declared) (x : VarId) (to : HostId)
    (uses : List StatementUse) → AreUsesWell labelled planned principals uses →
    AllByRecursion (ReadsFlow labelled) uses → list_any (stands_at planned to) (readers_of uses x.0) ≡ true →
    Sees planned to (label_of labelled x)
reader_sees labelled planned principals x to [] well flow some = absurd (true≢false (sym some))
reader_sees labelled planned principals x to (one ∷ uses) well flow some =
    by (list_any (λ (read : VarId). nat_eq read.0 x.0) one.reads) refl
    (reader_sees labelled planned principals x to uses well.1 flow.1) some
  where
    by : (b : Bool) → list_any (λ read. nat_eq read.0 x.0) one.reads ≡ b →
        (list_any (stands_at planned to) (readers_of uses x.0) ≡ true → Sees planned to (label_of labelled x)) →
        list_any (stands_at planned to) (map (λ it. it.id) (cond b
        (one ∷ filter (λ it. list_any (λ read. nat_eq read.0 x.0) it.reads) uses)
        (filter (λ it. list_any (λ read. nat_eq read.0 x.0) it.reads) uses))) ≡ true →
        Sees planned to (label_of labelled x)
    by true is others chosen = elim (either_true (stands_at planned to one.id) _ chosen) [
      | inl own ↦
          let there = statement_host planned.plan one.id in
          let P : HostId → Type 0 = λ host. Sees planned host one.used in
          sees_less planned to (label_of labelled x) one.used (read_flows labelled x one.used one.reads flow.0 is)
          (subst P (same_host there to (eqb-true there.0 to.0 own)) well.0.sees)
      | inr later ↦ others later
    ]
    by false is others chosen = others chosen

-- ---- what reads of a field tell

told_flow : (field : ℕ) (to : Label) (tellings : List Telling) →
    AllByRecursion (λ label. ConfFlows label to) (map (λ telling. telling.label)
    (filter (λ telling. nat_eq telling.field.0 field) tellings)) →
    AllByRecursion (λ telling. telling.field.0 ≡ field → ConfFlows telling.label to) tellings
told_flow field to [] flow = tt
told_flow field to (telling ∷ tellings) flow =
    by (nat_eq telling.field.0 field) refl (told_flow field to tellings) flow
  where
    by : (b : Bool) → nat_eq telling.field.0 field ≡ b →
        (AllByRecursion (λ label. ConfFlows label to) (map (λ it. it.label)
        (filter (λ it. nat_eq it.field.0 field) tellings)) →
        AllByRecursion (λ it. it.field.0 ≡ field → ConfFlows it.label to) tellings) →
        AllByRecursion (λ label. ConfFlows label to) (map (λ it. it.label) (cond b
        (telling ∷ filter (λ it. nat_eq it.field.0 field) tellings)
        (filter (λ it. nat_eq it.field.0 field) tellings))) →
        AllByRecursion (λ it. it.field.0 ≡ field → ConfFlows it.label to) (telling ∷ tellings)
    by true is others all = (λ same. all.0, others all.1)
    by false is others all =
        (λ same. absurd (true≢false (sym (eq-eqb telling.field.0 field same) ∙ is)), others all)

-- ---- programs

-- the premises of the laws, and what follows from them of each part of a program
pub record Premises (placed : PlacedProgram) : Type 0 where
  pub splittable : IsSplittable placed
  pub allowed : IsAllowed placed
  pub held : IsWellHeld placed

-- the host of a field may see it, and what its reads tell
pub field_held : (placed : PlacedProgram) →
    Premises placed → (field : FieldId) (tree : FieldTree) →
    slice_get placed.labelled.program.fields field.0 ≡ Some tree →
    Sees (planned_from placed) (field_host placed.plan field)
    (join_of tree.label (told_of placed.hosts.principals
    (flat_map (λ one. one.tellings) (statement_uses placed.hosts.principals placed.labelled)) field.0))
field_held placed premises field tree is =
    let fields = placed.labelled.program.fields in
    let told = told_of placed.hosts.principals
    (flat_map (λ (one : StatementUse). one.tellings) (statement_uses placed.hosts.principals placed.labelled)) in
    let within = slice_get_within fields field.0 tree is in
    let loc : slice_get placed.needs.loc field.0 ≡ Some (told field.0) =
    ap (λ list. slice_get list field.0) premises.allowed.needs_of.loc
    ∙ slice_get-map told (range_with_len 0 (length fields)) field.0
    ∙ ap (option_map told) (number_there (length fields) field.0 within) in
    let holds = zipped_there (HoldsField placed.hosts) (zip fields placed.needs.loc) placed.plan.fields
    premises.held.fields field.0
    (tree, told field.0) (zip_at fields placed.needs.loc field.0 tree (told field.0) is loc) in
    let P : HostId → Type 0 = λ host. Sees (planned_from placed) host (join_of tree.label (told field.0)) in
    let host_is : holds.0 ≡ field_host placed.plan field = sym (ap (λ found. unwrap_or found first_host) holds.1) in
    subst P host_is (seen (told field.0) (slice_get placed.hosts.hosts holds.0.0) holds.2)
  where
    seen : (told : Label) (found : Option HostShape) → IsSomeAnd found (λ row.
        ConfFlows (join_of tree.label told) row.label × IntegFlows row.label tree.label) →
        IsSomeAnd found (λ row. ConfFlows (join_of tree.label told) row.label)
    seen told None never = absurd never
    seen told (Some row) both = both.0

pub all_told : (placed : PlacedProgram) →
    Premises placed →
    AllByRecursion (IsToldWell placed.labelled (planned_from placed))
    (flat_map (λ one. one.tellings) (statement_uses placed.hosts.principals placed.labelled))
all_told placed premises =
    let planned = planned_from placed in
    let all = flat_map (λ (one : StatementUse). one.tellings) (statement_uses placed.hosts.principals placed.labelled)
    in
    each_there (IsToldWell placed.labelled planned) all (λ place telling is tree there.
    let field = telling.field.0 in
    let to = told_of placed.hosts.principals all field in
    let chosen = map (λ (it : Telling). it.label) (filter (λ (it : Telling). nat_eq it.field.0 field) all) in
    let flow = told_flow field to all (flows_folded (bottom_of placed.hosts.principals) chosen).1 in
    let host = field_host placed.plan telling.field in
    let own = all_there (λ (it : Telling). it.field.0 ≡ field → ConfFlows it.label to) all flow place telling is refl in
    sees_less planned host telling.label to own (sees_less planned host to (join_of tree.label to)
    (flows_second tree.label to) (field_held placed premises telling.field tree there)))

-- each statement
pub use_well : (placed : PlacedProgram) →
    Premises placed → (place : ℕ) (one : StatementUse) →
    slice_get (statement_uses placed.hosts.principals placed.labelled) place ≡ Some one →
    IsUseWell placed.labelled (planned_from placed) placed.hosts.principals one
use_well placed premises place one is =
    let planned = planned_from placed in
    let principals = placed.hosts.principals in
    let allowed = premises.allowed in
    let uses = statement_uses principals placed.labelled in
    let own : StatementUse → Label = λ it. it.used in
    let number : one.id.0 ≡ place = use_numbered principals placed.labelled place one allowed.statements is in
    let word = zipped_there (λ it word. IsNeed principals it.backing word) uses placed.needs.need allowed.needs_of.need
    place
    one is in
    let used : slice_get placed.needs.used place ≡ Some one.used =
    ap (λ list. slice_get list place) allowed.needs_of.used ∙ slice_get-map own uses place ∙ ap (option_map own) is in
    let holds = zipped_there (HoldsStatement placed.hosts) (zip placed.needs.used placed.needs.need)
    placed.plan.statements premises.held.statements
    place (one.used, word.0) (zip_at placed.needs.used placed.needs.need place one.used word.0 used word.1) in
    let host_is : holds.0 ≡ statement_host placed.plan one.id =
    sym (ap (λ found. unwrap_or found first_host) (ap (slice_get placed.plan.statements) number ∙ holds.1)) in
    let P : HostId → Type 0 = λ host. Sees planned host one.used in
    record {
      needed = use_needed placed allowed place one is;
      sees = subst P host_is (seen word.0 (slice_get placed.hosts.hosts holds.0.0) holds.2);
      tellings = part_of_all (IsToldWell placed.labelled planned) (λ (it : StatementUse). it.tellings) uses
          (all_told placed premises) place one is;
    }
  where
    seen : (need : ℕ) (found : Option HostShape) → IsSomeAnd found (λ row.
        ConfFlows one.used row.label × IsTrustedBy row.label need) →
        IsSomeAnd found (λ row. ConfFlows one.used row.label)
    seen need None never = absurd never
    seen need (Some row) both = both.0

-- whoever affects the begin label of a method is trusted for its head
head_trusted : (planned : PlannedShape) (principals : Declared) (host : HostId) (head : StmtId) (begin : Label) →
    IsNeed principals (for_label begin ∷ []) (slice_index planned.needs.need head.0) → Affects planned host begin →
    IsTrustedHost planned.hosts (need_of planned (head ∷ [])) host
head_trusted planned principals host head begin need affects = by (slice_get planned.hosts.hosts host.0) affects
  where
    by : (found : Option HostShape) → IsSomeAnd found (λ row. IntegFlows row.label begin) →
        IsSomeAnd found (λ row. IsTrustedBy row.label (need_of planned (head ∷ [])))
    by None never = absurd never
    by (Some row) flows = head_needed planned principals row.label head begin need flows

pub readers_there : (placed : PlacedProgram) →
    Premises placed → AllReadersSee placed.labelled (planned_from placed)
readers_there placed premises x to reads =
    by (slice_get placed.needs.readers x.0) refl reads
  where
    planned : PlannedShape
    planned = planned_from placed

    uses : List StatementUse
    uses = statement_uses placed.hosts.principals placed.labelled

    numbers : List ℕ
    numbers = range_with_len 0 (length placed.labelled.program.vars)

    by : (found : Option (List StmtId)) → slice_get placed.needs.readers x.0 ≡ found →
        list_any (stands_at planned to) (unwrap_or found []) ≡ true → Sees planned to (label_of placed.labelled x)
    by None is some = absurd (true≢false (sym some))
    by (Some readers) is some =
        let made = mapped (readers_of uses) numbers x.0 readers
        (ap (λ list. slice_get list x.0) (sym premises.allowed.needs_of.readers) ∙ is) in
        let within = slice_get_within numbers x.0 made.0 made.1 in
        let many = length-range_with_len 0 (length placed.labelled.program.vars) in
        let own : made.0 ≡ x.0 =
        some_same made.0 x.0 (sym made.1 ∙ number_there (length placed.labelled.program.vars) x.0 (omega arith)) in
        let P : List StmtId → Type 0 = λ list. list_any (stands_at planned to) list ≡ true in
        reader_sees placed.labelled planned placed.hosts.principals x to uses
        (each_there (IsUseWell placed.labelled planned placed.hosts.principals) uses (use_well placed premises))
        (methods_flow placed.hosts.principals placed.labelled placed.labelled.program.methods)
        (subst P (sym made.2 ∙ ap (readers_of uses) own) some)
      where
        some_same : (one other : ℕ) → Some one ≡ Some other → one ≡ other
        some_same one other same = cc

pub program_well : (placed : PlacedProgram) →
    Premises placed →
    ProgramWell placed.labelled (planned_from placed) placed.hosts.principals
program_well placed premises = record {
  many = premises.splittable.var_labels;
  readers = readers_there placed premises;
  fields = λ field tree is.
      let to = told_of placed.hosts.principals (flat_map (λ (one : StatementUse). one.tellings) uses) field.0 in
      let P : Label → Type 0 = λ label. Sees planned (field_host placed.plan field) label in
      let own : field_label placed.labelled.program field ≡ tree.label =
      ap (λ found. unwrap_or (option_map (λ (it : FieldTree). it.label) found) empty_label) is in
      subst P (sym own) (sees_less planned (field_host placed.plan field) tree.label (join_of tree.label to)
      (flows_first tree.label to) (field_held placed premises field tree is));
  methods = λ place tree is.
      let head = (part_of_all (IsUseWell placed.labelled planned placed.hosts.principals)
      (method_uses placed.hosts.principals placed.labelled)
      placed.labelled.program.methods all_well place tree is).0 in
      record {
        home = head.sees;
        numbered = method_there placed.labelled.program placed.labelled.program.methods 0
            premises.allowed.numbered.methods place
            place tree (omega arith) is;
        trusted = λ host affects. head_trusted planned placed.hosts.principals host tree.head tree.begin
            head.needed.need
            affects;
      };
}
  where
    planned : PlannedShape
    planned = planned_from placed

    uses : List StatementUse
    uses = statement_uses placed.hosts.principals placed.labelled

    all_well : AllByRecursion (IsUseWell placed.labelled (planned_from placed) placed.hosts.principals)
        (statement_uses placed.hosts.principals placed.labelled)
    all_well = each_there (IsUseWell placed.labelled planned placed.hosts.principals) uses
        (use_well placed premises)

methods_well : (principals : Declared) (labelled : Labelled) (planned : PlannedShape) →
    ProgramWell labelled planned principals → (final : VariableLabels) → AreFinal labelled final → (place : ℕ)
    (methods : List MethodTree) (labels : VariableLabels) → length labels ≡ length labelled.program.vars →
    labels_after_methods principals labelled.program labels methods ≡ final →
    AreMethodsIn labelled.program place methods →
    AreLabelledMethods principals labelled.program labels methods →
    AreAllValuesLabelled principals labelled.program labels methods →
    AreMet principals (methods_labels principals labelled.program labels methods) →
    AreLabelsKept labelled (methods_labels principals labelled.program labels methods) →
    AreUsesWell labelled planned principals (flat_map (method_uses principals labelled) methods) →
    AllByRecursion (MethodTellsWell principals labelled planned) methods
methods_well principals labelled planned program final are place [] labels many end there has values met kept uses = tt
methods_well principals labelled planned program final are place (method ∷ methods) labels many end there has values met
    kept uses =
    let setting = setting_of principals labelled.program method in
    let after = labels_after setting method.begin labels method.body in
    let own = block_labels setting method.begin labels method.body in
    let own_uses = block_uses labelled setting method.body in
    let stay = subst (Stay after) end (methods_stay principals labelled.program after methods) in (
      record {
        home = uses.0.sees;
        body = block_well principals labelled planned method program (record { 0 = place }) there.0.result
            (is_some method.result) final are method.begin labels many method.body stay there.0.body has.0.labelled
            values.0 (all_first (IsMet principals) own _ met.1) (all_first (IsKept labelled) own _ kept.1)
            (all_first (IsUseWell labelled planned principals) own_uses _ uses.1);
      },
      methods_well principals labelled planned program final are (suc place) methods after
          ((block_stays setting method.begin labels method.body).many ∙ many) end there.1 has.1 values.1
          (all_second (IsMet principals) own _ met.1) (all_second (IsKept labelled) own _ kept.1)
          (all_second (IsUseWell labelled planned principals) own_uses _ uses.1),
    )

pub program_tells_well : (placed : PlacedProgram) → IsSplittable placed → IsAllowed placed → IsWellHeld placed →
    AllByRecursion (MethodTellsWell placed.hosts.principals placed.labelled (planned_from placed))
    placed.labelled.program.methods
program_tells_well placed splittable allowed held =
    let planned = planned_from placed in
    let principals = placed.hosts.principals in
    let program = placed.labelled.program in
    let declared = declared_labels program in
    let final = labels_after_methods principals program declared program.methods in
    let premises : Premises placed =
    record { splittable = splittable; allowed = allowed; held = held } in
    let met = met_from principals (program_labels principals program)
    (by_recursion (Meets principals) (obligations_of (program_labels principals program)) allowed.well_labelled) in
    methods_well principals placed.labelled planned (program_well placed premises) final
    allowed.var_labels 0 program.methods declared (length-map program.vars (λ variable. variable.label)) refl
    allowed.numbered.methods allowed.methods held.values met
    (labels_kept placed.labelled principals allowed.statements held.pc)
    (each_there (IsUseWell placed.labelled planned principals) (statement_uses principals placed.labelled)
    (use_well placed premises))
