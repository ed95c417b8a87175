-- What a walk asks of other hosts and tells them, at the instructions of the code that is read off it.
use Rattle.std.proofs.Common.{◌≡◌, ◌≢◌, ◌∙◌, ℕ, zero, suc, ◌+◌, ◌<◌, List, [], ◌∷◌, ◌++◌, map, length, refl, ap, sym}
use Rattle.std.proofs.Common.{subst, arith, append_assoc, append-nil, inl, inr}
use Rattle.std.specs.Prelude.{Option, Some, None, slice_get, IsSomeAnd}
use Rattle.std.specs.List.{AllByRecursion, flat_map, zip}
use Rattle.std.specs.Option.{option_map}
use Rattle.std.proofs.lemmas.Option.{slice_get-map, slice_get_within, slice_get_cases}
use Rattle.js_base.specs.declared.ids.HostId.{HostId}
use Rattle.js_base.specs.declared.ids.FieldId.{FieldId}
use Rattle.js_base.specs.declared.ids.VarId.{VarId}
use Rattle.js_base.specs.declared.ids.EntryId.{EntryId}
use Rattle.label_lattice.specs.declared.label.Label.{Label}
use Rattle.label_lattice.specs.Label.{ConfFlows, IntegFlows, IsTrustedBy}
use Rattle.host_decl.specs.Hosts.{HostShape, HostsShape}
use Rattle.jif_tree.specs.Trees.{FieldTree, VarTree, MethodTree}
use Rattle.jif_tree.specs.LabelRules.{method_at}
use Rattle.host_code.specs.declared.code.Entry.{Entry}
use Rattle.host_code.specs.declared.instruction.Instr.{Instr}
use Rattle.host_code.specs.declared.instruction.Op.{Op}
use Rattle.host_code.specs.declared.instruction.Op.TheVariants as op
use Rattle.host_code.specs.Code.{CodeShape, CodeHostShape, CodeFieldShape, CodeVariableShape, instruction_at, field_at}
use Rattle.host_code.specs.Code.{variable_at}
use Rattle.entry_check.specs.declared.ask.Ask.TheVariants as ask
use Rattle.entry_check.specs.Checks.{May, MaySee, MayAffect, IsTrustedFor, label_at, label_of_host}
use Rattle.need_labels.specs.Labelled.{Labelled}
use Rattle.need_labels.specs.Plan.{field_host}
use Rattle.msg_cost.specs.Moves.{PlannedShape}
use Rattle.split_rules.specs.Placed.{PlacedProgram, planned_from}
use Rattle.split_rules.specs.Emissions.{Emission, instruction, entry, stands, lands, Emitted, NamedEntry, Counts}
use Rattle.split_rules.specs.Emissions.{counts_after}
use Rattle.split_rules.specs.Allowed.{IsTrustedHost}
use Rattle.split_rules.specs.Asking.{IfElsewhere, IsLabelSeenBy}
use Rattle.split_rules.specs.SplitCode.{entries_in, landed, placed_instruction, code_labels}
use Rattle.split_rules.specs.SplitCode.{code_variable, label_place, label_of_emission, code_of_emissions}
use Rattle.split_rules.specs.Walk.{method_entry, program_emissions, methods_emissions}
use Rattle.split_rules.proofs.Places.{found, found_entry, entries_append}
use Rattle.split_rules.proofs.NumberedLists.{numbered_at}
use Rattle.split_rules.proofs.CodeItems.{code_field, fields_numbered}
use Rattle.split_rules.proofs.CodeLabels.{IsLabelIn, label_left, label_right, label_of_one, label_placed}
use Rattle.split_rules.proofs.CodeLabels as labels
use Rattle.split_rules.proofs.Fronts.{front_of, front_is}
use Rattle.split_rules.proofs.SoundParts.{entry_there}
use Rattle.split_rules.proofs.SoundInstructions.{instruction_made, get_left}
use Rattle.split_rules.proofs.WalkedMoves.{no_halt}
use Rattle.split_rules.proofs.WalkedCalls.{nothing_there}
use Rattle.split_rules.proofs.ToldEmissions.{Sees, Affects, AffectsVariable, ReadsWell, PutsWell, HandsWell}
use Rattle.split_rules.proofs.ToldEmissions.{CallsWell, TellsWell, AreTold, told_on, counted_after, entry_of, IsBegun}
use Rattle.split_rules.proofs.ToldWalks.{MethodTellsWell, methods_told}
use Rattle.split_rules.proofs.SeenPrograms.{zip_at}

-- ---- a program

entries_told : (labelled : Labelled) (planned : PlannedShape) (named : List NamedEntry) (methods : List MethodTree) →
    AreTold labelled planned named (map (method_entry planned) methods)
entries_told labelled planned named [] = tt
entries_told labelled planned named (method ∷ methods) =
    entries_told labelled planned (named ++ entry_of planned method ∷ []) methods

method_named : (planned : PlannedShape) (methods : List MethodTree) (place : ℕ) (tree : MethodTree) →
    slice_get methods place ≡ Some tree →
    slice_get (entries_in (map (method_entry planned) methods)) place ≡ Some (entry_of planned tree)
method_named planned [] place tree is = absurd (nothing_there place tree is)
method_named planned (method ∷ methods) zero tree is =
    let same : method ≡ tree = cc in
    ap (λ one. Some (entry_of planned one)) same
method_named planned (method ∷ methods) (suc place) tree is = method_named planned methods place tree is

pub program_told : (placed : PlacedProgram) →
    let planned = planned_from placed in
    (main : MethodTree) → method_at placed.labelled.program placed.labelled.program.main ≡ Some main →
    AllByRecursion (MethodTellsWell placed.hosts.principals placed.labelled planned) placed.labelled.program.methods →
    AreTold placed.labelled planned [] (program_emissions placed)
program_told placed main main_is well = subst P (sym (front_is placed.labelled planned main main_is)) whole
  where
    planned : PlannedShape
    planned = planned_from placed

    none : Counts
    none = record { entries = 0; branches = 0 }

    front : List Emission
    front = front_of (planned_from placed) main placed.labelled.program.methods

    P : List Emission → Type 0
    P list = AreTold placed.labelled planned [] (list ++ methods_emissions placed.hosts.principals placed.labelled
        planned
        (counts_after none list) 0 placed.labelled.program.methods)

    begun : IsBegun placed.labelled planned (entries_in front)
    begun = record { some = omega arith; methods = method_named planned placed.labelled.program.methods }

    whole : P front
    whole = told_on placed.labelled planned [] front _
        (entries_told placed.labelled planned (entry_of planned main ∷ []) placed.labelled.program.methods)
        (methods_told placed.hosts.principals placed.labelled planned 0 placed.labelled.program.methods well
        (counts_after none front)
        (entries_in front) (counted_after none [] front refl) begun)

-- ---- an instruction of a walk

told_behind : (labelled : Labelled) (planned : PlannedShape) (named : List NamedEntry) (before : List Emission)
    (one : Emitted) (behind : List Emission) → AreTold labelled planned named (before ++ instruction one ∷ behind) →
    TellsWell labelled planned (named ++ entries_in before) one.host one.label one.op
told_behind labelled planned named [] one behind told =
    let P : List NamedEntry → Type 0 = λ list. TellsWell labelled planned list one.host one.label one.op in
    subst P (sym (append-nil named)) told.0
told_behind labelled planned named (instruction other ∷ before) one behind told =
    told_behind labelled planned named before one behind told.1
told_behind labelled planned named (entry other ∷ before) one behind told =
    let P : List NamedEntry → Type 0 = λ list. TellsWell labelled planned list one.host one.label one.op in
    subst P (append_assoc named (other ∷ []) (entries_in before))
    (told_behind labelled planned (named ++ other ∷ []) before one behind told)
told_behind labelled planned named (stands host number ∷ before) one behind told =
    told_behind labelled planned named before one behind told
told_behind labelled planned named (lands host number ∷ before) one behind told =
    told_behind labelled planned named before one behind told

hands_more : (planned : PlannedShape) (named more : List NamedEntry) (host : HostId) (pc : Label) (there : EntryId)
    (on : HostId) → HandsWell planned named host pc there on → HandsWell planned (named ++ more) host pc there on
hands_more planned named more host pc there on well = record {
  no_halt = well.no_halt;
  one = well.one;
  is = get_left named more there.0 well.one well.is;
  on_host = well.on_host;
  label_is = well.label_is;
  sender = well.sender;
  receiver = well.receiver;
}

calls_more : (planned : PlannedShape) (named more : List NamedEntry) (host : HostId) (pc : Label) (there : EntryId)
    (on : HostId) → CallsWell planned named host pc there on → CallsWell planned (named ++ more) host pc there on
calls_more planned named more host pc there on well = record {
  no_halt = well.no_halt;
  one = well.one;
  is = get_left named more there.0 well.one well.is;
  on_host = well.on_host;
  sender = well.sender;
  trusted = well.trusted;
  receiver = well.receiver;
}

-- with more entries behind those that are named
tells_more : (labelled : Labelled) (planned : PlannedShape) (named more : List NamedEntry) (host : HostId) (pc : Label)
    (what : Op) → TellsWell labelled planned named host pc what →
    TellsWell labelled planned (named ++ more) host pc what
tells_more labelled planned named more host pc (op.Ask there on) well =
    hands_more planned named more host pc there on well
tells_more labelled planned named more host pc (op.Go there on) well =
    hands_more planned named more host pc there on well
tells_more labelled planned named more host pc (op.Call there on) well =
    calls_more planned named more host pc there on well
tells_more labelled planned named more host pc (op.GoWith there on riders) well =
    hands_more planned named more host pc there on well
tells_more labelled planned named more host pc (op.CallWith there on riders) well =
    calls_more planned named more host pc there on well
tells_more labelled planned named more host pc (op.Read field index) well = well
tells_more labelled planned named more host pc (op.Let x value) well = well
tells_more labelled planned named more host pc (op.Put field index value) well = well
tells_more labelled planned named more host pc (op.Send x to) well = well
tells_more labelled planned named more host pc (op.Frame site) well = well
tells_more labelled planned named more host pc (op.Arg x value) well = well
tells_more labelled planned named more host pc (op.Pass x to) well = well
tells_more labelled planned named more host pc (op.Push there) well = well
tells_more labelled planned named more host pc (op.Ret x value) well = well
tells_more labelled planned named more host pc op.Back well = well
tells_more labelled planned named more host pc (op.Branch guard target) well = well

-- ---- an instruction of a code

-- what an instruction of a code was made of
pub record MadeOf (labelled : Labelled) (planned : PlannedShape) (emissions : List Emission) (me : HostId)
    (there : Instr) : Type 0 where
  pub one : Emitted
  pub before : List Emission
  pub behind : List Emission
  pub is : emissions ≡ before ++ instruction one ∷ behind
  pub made : record {
    label = label_place 0 one.label (code_labels labelled emissions);
    statement = one.statement;
    op = landed me emissions one.op;
  } ≡ there
  pub tells : TellsWell labelled planned (entries_in emissions) me one.label one.op

pub made_of : (labelled : Labelled) (hosts : HostsShape) (planned : PlannedShape) (emissions : List Emission) →
    AreTold labelled planned [] emissions → (me : HostId) (place : ℕ) (there : Instr) →
    instruction_at (code_of_emissions labelled hosts planned emissions) me place ≡ Some there →
    MadeOf labelled planned emissions me there
made_of labelled hosts planned emissions told me place there is =
    let made = instruction_made labelled hosts planned emissions me place there is in
    let one = made.1 in
    let so = found me emissions place one.0 one.1 in
    let P : HostId → Type 0 = λ host. placed_instruction needed emissions one.0 ≡ record {
      label = label_place 0 one.0.label needed;
      statement = one.0.statement;
      op = landed host emissions one.0.op;
    } in
    let Q : List Emission → Type 0 = λ list. AreTold labelled planned [] list in
    let R : HostId → Type 0 = λ host.
    TellsWell labelled planned (entries_in emissions) host one.0.label one.0.op in
    let S : List NamedEntry → Type 0 = λ list. TellsWell labelled planned list one.0.host one.0.label one.0.op in
    let all_named : entries_in emissions ≡ entries_in so.before ++ entries_in (instruction one.0 ∷ so.behind) =
    ap entries_in so.is ∙ entries_append so.before (instruction one.0 ∷ so.behind) in
    record {
      one = one.0;
      before = so.before;
      behind = so.behind;
      is = so.is;
      made = sym (subst P so.own refl) ∙ one.2;
      tells = subst R so.own (subst S (sym all_named)
          (tells_more labelled planned (entries_in so.before) _ one.0.host one.0.label one.0.op
          (told_behind labelled planned [] so.before one.0 so.behind (subst Q so.is told))));
    }
  where
    needed : List Label
    needed = code_labels labelled emissions

-- ---- hosts of a code

abbrev code_host : HostShape → CodeHostShape
code_host host = record { name = host.name; label = host.label }

pub host_label : (labelled : Labelled) (hosts : HostsShape) (planned : PlannedShape) (emissions : List Emission)
    (host : HostId) → label_of_host (code_of_emissions labelled hosts planned emissions) host
    ≡ option_map (λ row. row.label) (slice_get hosts.hosts host.0)
host_label labelled hosts planned emissions host =
    ap (λ found. option_map (λ (row : CodeHostShape). row.label) found) (slice_get-map code_host hosts.hosts host.0)
    ∙ by (slice_get hosts.hosts host.0)
  where
    by : (found : Option HostShape) → option_map (λ row. row.label) (option_map code_host found)
        ≡ option_map (λ row. row.label) found
    by None = refl
    by (Some row) = refl

pub sees_in_code : (placed : PlacedProgram) (emissions : List Emission) (host : HostId) (label : Label) →
    let planned = planned_from placed in
    Sees planned host label →
    MaySee (Some label) (label_of_host (code_of_emissions placed.labelled placed.hosts planned emissions) host)
sees_in_code placed emissions host label sees =
    let P : Option Label → Type 0 = λ found. MaySee (Some label) found in
    subst P (sym (host_label placed.labelled placed.hosts (planned_from placed) emissions host))
    (by (slice_get placed.hosts.hosts host.0) sees)
  where
    by : (found : Option HostShape) → IsSomeAnd found (λ row. ConfFlows label row.label) →
        MaySee (Some label) (option_map (λ row. row.label) found)
    by None never = absurd never
    by (Some row) flows = flows

pub affects_in_code : (placed : PlacedProgram) (emissions : List Emission) (host : HostId) (label : Label) →
    let planned = planned_from placed in
    Affects planned host label →
    MayAffect (label_of_host (code_of_emissions placed.labelled placed.hosts planned emissions) host) (Some label)
affects_in_code placed emissions host label affects =
    let P : Option Label → Type 0 = λ found. MayAffect found (Some label) in
    subst P (sym (host_label placed.labelled placed.hosts (planned_from placed) emissions host))
    (by (slice_get placed.hosts.hosts host.0) affects)
  where
    by : (found : Option HostShape) → IsSomeAnd found (λ row. IntegFlows row.label label) →
        MayAffect (option_map (λ row. row.label) found) (Some label)
    by None never = absurd never
    by (Some row) flows = flows

trusted_in_code : (placed : PlacedProgram) (emissions : List Emission) (host : HostId) (need : ℕ) →
    IsTrustedHost placed.hosts need host →
    IsTrustedFor (label_of_host (code_of_emissions placed.labelled placed.hosts (planned_from placed) emissions) host)
    need
trusted_in_code placed emissions host need trusted =
    let P : Option Label → Type 0 = λ found. IsTrustedFor found need in
    subst P (sym (host_label placed.labelled placed.hosts (planned_from placed) emissions host))
    (by (slice_get placed.hosts.hosts host.0) trusted)
  where
    by : (found : Option HostShape) → IsSomeAnd found (λ row. IsTrustedBy row.label need) →
        IsTrustedFor (option_map (λ row. row.label) found) need
    by None never = absurd never
    by (Some row) trusts = trusts

-- ---- fields, variables and entries of a code

pub field_in_code : (labelled : Labelled) (hosts : HostsShape) (planned : PlannedShape) (emissions : List Emission)
    (field : FieldId) (tree : FieldTree) → slice_get labelled.program.fields field.0 ≡ Some tree →
    field_at (code_of_emissions labelled hosts planned emissions) field
    ≡ Some (code_field (code_labels labelled emissions) planned.plan field.0 tree)
field_in_code labelled hosts planned emissions field tree is =
    let needed = code_labels labelled emissions in
    let make = code_field needed planned.plan in
    let sum : 0 + field.0 ≡ field.0 = omega arith in
    ap (λ list. slice_get list field.0) (fields_numbered needed planned.plan 0 labelled.program.fields)
    ∙ numbered_at make 0 labelled.program.fields field.0 tree is ∙ ap (λ at. Some (make at tree)) sum

pub field_labelled : (labelled : Labelled) (hosts : HostsShape) (planned : PlannedShape) (emissions : List Emission)
    (field : FieldId) (tree : FieldTree) → slice_get labelled.program.fields field.0 ≡ Some tree →
    label_at (code_of_emissions labelled hosts planned emissions)
    (label_place 0 tree.label (code_labels labelled emissions)) ≡ Some tree.label
field_labelled labelled hosts planned emissions field tree is =
    let own : FieldTree → Label = λ it. it.label in
    let fields = map own labelled.program.fields in
    let given = flat_map label_of_emission emissions in
    label_placed tree.label (fields ++ labelled.var_labels ++ given)
    (label_left tree.label (fields ++ labelled.var_labels) given
    (label_left tree.label fields labelled.var_labels
    (labels.label_at fields field.0 tree.label
    (slice_get-map own labelled.program.fields field.0 ∙ ap (option_map own) is))))

-- the label of a variable
pub variable_labelled : (labelled : Labelled) (hosts : HostsShape) (planned : PlannedShape) (emissions : List Emission)
    (x : VarId) (label : Label) → slice_get labelled.var_labels x.0 ≡ Some label →
    label_at (code_of_emissions labelled hosts planned emissions)
    (label_place 0 label (code_labels labelled emissions)) ≡ Some label
variable_labelled labelled hosts planned emissions x label is =
    let fields = map (λ (field : FieldTree). field.label) labelled.program.fields in
    let given = flat_map label_of_emission emissions in
    label_placed label (fields ++ labelled.var_labels ++ given)
    (label_left label (fields ++ labelled.var_labels) given
    (label_right label fields labelled.var_labels (labels.label_at labelled.var_labels x.0 label is)))

-- a variable and what it is made of
pub variable_in_code : (labelled : Labelled) (hosts : HostsShape) (planned : PlannedShape) (emissions : List Emission)
    (x : VarId) (variable : VarTree) (label : Label) → slice_get labelled.program.vars x.0 ≡ Some variable →
    slice_get labelled.var_labels x.0 ≡ Some label →
    variable_at (code_of_emissions labelled hosts planned emissions) x
    ≡ Some (code_variable labelled.program (code_labels labelled emissions) (variable, label))
variable_in_code labelled hosts planned emissions x variable label there is =
    let make = code_variable labelled.program (code_labels labelled emissions) in
    slice_get-map make (zip labelled.program.vars labelled.var_labels) x.0
    ∙ ap (option_map make) (zip_at labelled.program.vars labelled.var_labels x.0 variable label there is)

pub emission_labelled : (labelled : Labelled) (hosts : HostsShape) (planned : PlannedShape)
    (emissions before : List Emission) (one : Emission) (behind : List Emission) →
    emissions ≡ before ++ one ∷ behind → (label : Label) → IsLabelIn label (label_of_emission one) →
    label_at (code_of_emissions labelled hosts planned emissions)
    (label_place 0 label (code_labels labelled emissions)) ≡ Some label
emission_labelled labelled hosts planned emissions before one behind is label among =
    let own : FieldTree → Label = λ it. it.label in
    let fields = map own labelled.program.fields in
    let given = flat_map label_of_emission emissions in
    let P : List Emission → Type 0 = λ list. IsLabelIn label (flat_map label_of_emission list) in
    label_placed label (fields ++ labelled.var_labels ++ given)
    (label_right label (fields ++ labelled.var_labels) given
    (subst P (sym is) (label_of_one label before one behind among)))

-- the variable has a label that the host may affect
pub variable_granted : (placed : PlacedProgram) (emissions : List Emission) (me owner : HostId) (x : VarId) →
    length placed.labelled.var_labels ≡ length placed.labelled.program.vars →
    let planned = planned_from placed in
    AffectsVariable placed.labelled planned me x →
    May (code_of_emissions placed.labelled placed.hosts planned emissions) owner (ask.Forward x) me
variable_granted placed emissions me owner x many affects =
    by (slice_get placed.labelled.var_labels x.0) refl affects
  where
    planned : PlannedShape
    planned = planned_from placed

    code : CodeShape
    code = code_of_emissions placed.labelled placed.hosts (planned_from placed) emissions

    with_variable : (label : Label) → slice_get placed.labelled.var_labels x.0 ≡ Some label → Affects planned me label →
        (variable : VarTree) → slice_get placed.labelled.program.vars x.0 ≡ Some variable →
        May code owner (ask.Forward x) me
    with_variable label is own variable there =
        let in_code = variable_in_code placed.labelled placed.hosts planned emissions x variable label there is in
        let label_is = variable_labelled placed.labelled placed.hosts planned emissions x label is in
        let P : Option Label → Type 0 = λ it. MayAffect (label_of_host code me) it in
        let Q : Option CodeVariableShape → Type 0 = λ it. IsSomeAnd it
        (λ one. MayAffect (label_of_host code me) (label_at code one.label)) in
        subst Q (sym in_code) (subst P (sym label_is) (affects_in_code placed emissions me label own))

    by : (found : Option Label) → slice_get placed.labelled.var_labels x.0 ≡ found →
        IsSomeAnd found (Affects planned me) →
        May code owner (ask.Forward x) me
    by None is never = absurd never
    by (Some label) is own =
        let within = slice_get_within placed.labelled.var_labels x.0 label is in
        elim ((slice_get_cases placed.labelled.program.vars x.0).1) [
          | inl there ↦ with_variable label is own there.0 there.2
          | inr past ↦ absurd (let over = past.0 in omega arith)
        ]

-- ---- what each kind of instruction asks and tells

-- a field of another host is read
pub read_granted : (placed : PlacedProgram) (emissions : List Emission) (me : HostId) (pc : Label) (field : FieldId) →
    let planned = planned_from placed in
    let code = code_of_emissions placed.labelled placed.hosts planned emissions in
    ReadsWell placed.labelled planned me pc field → IfElsewhere code me field (λ owner. May code owner
    (ask.Get field) me)
read_granted placed emissions me pc field well =
    by (slice_get placed.labelled.program.fields field.0) refl well
  where
    planned : PlannedShape
    planned = planned_from placed

    code : CodeShape
    code = code_of_emissions placed.labelled placed.hosts (planned_from placed) emissions

    by : (found : Option FieldTree) → slice_get placed.labelled.program.fields field.0 ≡ found →
        IsSomeAnd found (λ tree. Sees planned me tree.label × Sees planned (field_host placed.plan field) pc) →
        IfElsewhere code me field (λ owner. May code owner (ask.Get field) me)
    by None is never = absurd never
    by (Some tree) is own =
        let P : Option CodeFieldShape → Type 0 = λ found. IsSomeAnd found (λ there. there.host ≢ me →
        IsSomeAnd found (λ again. (again.host ≡ there.host) × MaySee (label_at code again.label)
        (label_of_host code me))) in
        let Q : Option Label → Type 0 = λ label. MaySee label (label_of_host code me) in
        subst P (sym (field_in_code placed.labelled placed.hosts planned emissions field tree is))
        (λ apart. (
          refl,
          subst Q (sym (field_labelled placed.labelled placed.hosts planned emissions field tree is))
              (sees_in_code placed emissions me tree.label own.0),
        ))

-- or set
pub put_granted : (placed : PlacedProgram) (emissions : List Emission) (me : HostId) (pc : Label) (field : FieldId) →
    let planned = planned_from placed in
    let code = code_of_emissions placed.labelled placed.hosts planned emissions in
    PutsWell placed.labelled planned me pc field → IfElsewhere code me field (λ owner. May code owner
    (ask.Set field) me)
put_granted placed emissions me pc field well =
    by (slice_get placed.labelled.program.fields field.0) refl well
  where
    planned : PlannedShape
    planned = planned_from placed

    code : CodeShape
    code = code_of_emissions placed.labelled placed.hosts (planned_from placed) emissions

    by : (found : Option FieldTree) → slice_get placed.labelled.program.fields field.0 ≡ found →
        IsSomeAnd found (λ tree. Affects planned me tree.label × Sees planned (field_host placed.plan field) pc) →
        IfElsewhere code me field (λ owner. May code owner (ask.Set field) me)
    by None is never = absurd never
    by (Some tree) is own =
        let P : Option CodeFieldShape → Type 0 = λ found. IsSomeAnd found (λ there. there.host ≢ me →
        IsSomeAnd found (λ again. (again.host ≡ there.host) × MayAffect (label_of_host code me)
        (label_at code again.label))) in
        let Q : Option Label → Type 0 = λ label. MayAffect (label_of_host code me) label in
        subst P (sym (field_in_code placed.labelled placed.hosts planned emissions field tree is))
        (λ apart. (
          refl,
          subst Q (sym (field_labelled placed.labelled placed.hosts planned emissions field tree is))
              (affects_in_code placed emissions me tree.label own.0),
        ))

-- the host of a field is told a label of the code
pub field_told : (placed : PlacedProgram) (emissions : List Emission) (me : HostId) (label : ℕ) (field : FieldId)
    (tree : FieldTree) →
    let planned = planned_from placed in
    let code = code_of_emissions placed.labelled placed.hosts planned emissions in
    slice_get placed.labelled.program.fields field.0 ≡ Some tree →
    IsLabelSeenBy code label (field_host placed.plan field) →
    IfElsewhere code me field (IsLabelSeenBy code label)
field_told placed emissions me label field tree is seen =
    let planned = planned_from placed in
    let code = code_of_emissions placed.labelled placed.hosts planned emissions in
    let P : Option CodeFieldShape → Type 0 = λ found.
    IsSomeAnd found (λ there. there.host ≢ me → IsLabelSeenBy code label there.host) in
    subst P (sym (field_in_code placed.labelled placed.hosts planned emissions field tree is)) (λ apart. seen)

-- an entry is entered by a host that has its need and may see its label
pub enters_granted : (placed : PlacedProgram) (emissions : List Emission) (me on : HostId) (there : EntryId)
    (named : NamedEntry) → 0 < there.0 →
    slice_get (entries_in emissions) there.0 ≡ Some named → named.host ≡ on → IsTrustedHost placed.hosts named.need me →
    let planned = planned_from placed in
    let code = code_of_emissions placed.labelled placed.hosts planned emissions in
    Sees planned me named.label → May code on (ask.Enter there) me
enters_granted placed emissions me on there named some is on_host trusted sees =
    let planned = planned_from placed in
    let code = code_of_emissions placed.labelled placed.hosts planned emissions in
    let needed = code_labels placed.labelled emissions in
    let so = found_entry emissions there.0 named is in
    let label_is : label_at code (label_place 0 named.label needed) ≡ Some named.label =
    emission_labelled placed.labelled placed.hosts planned emissions so.before (entry named) so.behind so.is
    named.label (inl refl) in
    let P : Option Entry → Type 0 = λ found. IsSomeAnd found (λ it. (it.host ≡ on)
    × IsTrustedFor (label_of_host code me) it.need × MaySee (label_at code it.label) (label_of_host code me)) in
    let Q : Option Label → Type 0 = λ label. MaySee label (label_of_host code me) in (
      no_halt there.0 some,
      subst P (sym (entry_there needed emissions there.0 named is)) (
        on_host,
        trusted_in_code placed emissions me named.need trusted,
        subst Q (sym label_is) (sees_in_code placed emissions me named.label sees),
      ),
    )
