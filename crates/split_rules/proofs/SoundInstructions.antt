-- Each instruction of the code that is read off a walk fits, and so does each part.
use Rattle.std.proofs.Common.{◌≡◌, ◌∙◌, ℕ, zero, suc, ◌-◌, ◌<◌, ◌≤◌, ◌⊎◌, inl, List, [], ◌∷◌, ◌++◌, map}
use Rattle.std.proofs.Common.{length, Option, Some, None, slice_get, refl, ap, sym, subst, arith, append_assoc}
use Rattle.std.proofs.Common.{IsSomeAnd}
use Rattle.std.specs.Prelude.{unwrap_or}
use Rattle.std.specs.List.{flat_map, range_with_len}
use Rattle.std.proofs.lemmas.List.{map-append, length-map}
use Rattle.std.proofs.lemmas.List.FromFn.{length-range_with_len}
use Rattle.std.proofs.lemmas.Option.{slice_get_within}
use Rattle.js_base.specs.declared.ids.HostId.{HostId}
use Rattle.js_base.specs.declared.ids.EntryId.{EntryId}
use Rattle.label_lattice.specs.declared.label.Label.{Label}
use Rattle.host_decl.specs.Hosts.{HostsShape}
use Rattle.jif_tree.specs.Trees.{MethodTree}
use Rattle.host_code.specs.declared.code.TheConstants.{MOST_ITEMS}
use Rattle.host_code.specs.declared.instruction.Instr.{Instr}
use Rattle.host_code.specs.declared.instruction.Op.{Op}
use Rattle.host_code.specs.declared.instruction.Op.TheVariants as op
use Rattle.host_code.specs.Code.{CodeShape, part_of, instruction_at}
use Rattle.host_code.specs.Sound as sound
use Rattle.host_code.specs.Sound.{IsLeaving, temporaries_at, PartFits}
use Rattle.need_labels.specs.Labelled.{Labelled}
use Rattle.msg_cost.specs.Moves.{PlannedShape, home_of}
use Rattle.split_rules.specs.Emissions.{Emission, instruction, Emitted, NamedEntry}
use Rattle.split_rules.specs.SplitCode.{emitted_on, entries_in, landed, placed_instruction, part_on}
use Rattle.split_rules.specs.SplitCode.{label_place, code_labels, label_of_emission, code_of_emissions}
use Rattle.split_rules.specs.Flow.{Scope, State, Flow, stopped, at, awaited, branched, after, InstructionFitsFlow}
use Rattle.split_rules.specs.Flow.{FlowGoes}
use Rattle.split_rules.specs.Flow.{OperationFitsScope, IsNamedEntryOn}
use Rattle.split_rules.specs.WalkStart.{scope_of}
use Rattle.split_rules.proofs.Places.{found, entries_append, emitted_few}
use Rattle.split_rules.proofs.Pendings.{of_branches, count, due, IsAmong, halves}
use Rattle.split_rules.proofs.Standing.{Placed, placed_below, placed_from, LeavesLast, leaves_last}
use Rattle.split_rules.proofs.Temporaries.{reads, reads_append, reads_fewer, reads_at, Under, under}
use Rattle.split_rules.proofs.CodeLabels.{IsLabelIn, label_there, label_right, label_of_one}
use Rattle.split_rules.proofs.FittingOperations.{HasScope, Leads, operation_fits}
use Rattle.split_rules.proofs.Fronts.{front_of, start_of, ordered_start, front_emitted, front_hosts}
use Rattle.split_rules.proofs.Fronts.{landing_behind_front}
use Rattle.split_rules.proofs.Fronts.{IsWalk, names_after}
use Rattle.split_rules.proofs.SoundParts.{given, code_given, given_emitted, part_is, long_part, entry_there, entrances}
use Rattle.split_rules.proofs.SoundParts.{ends_leaving}

-- ---- entries that are named

pub mapped : {X Y : Type 0} (make : X → Y) (xs : List X) (place : ℕ) (y : Y) → slice_get (map make xs) place ≡ Some y →
    (x : X) × (slice_get xs place ≡ Some x) × (make x ≡ y)
mapped make [] place y there = absurd (cc)
mapped make (first ∷ xs) zero y there = let same : make first ≡ y = cc in (first, refl, same)
mapped make (first ∷ xs) (suc place) y there = mapped make xs place y there

-- an instruction of the code, whose host is one of the program, by the emission that it is made of
pub instruction_made : (labelled : Labelled) (hosts : HostsShape) (planned : PlannedShape) (emissions : List Emission)
    (me : HostId) (place : ℕ) (there : Instr) →
    instruction_at (code_of_emissions labelled hosts planned emissions) me place ≡ Some there →
    (me.0 < length hosts.hosts)
    × ((one : Emitted) × (slice_get (emitted_on me emissions) place ≡ Some one)
    × (placed_instruction (code_labels labelled emissions) emissions one ≡ there))
instruction_made labelled hosts planned emissions me place there is = (within, made)
  where
    code : CodeShape
    code = code_of_emissions labelled hosts planned emissions

    labels : List Label
    labels = code_labels labelled emissions

    by : (part : Option (List Instr)) → slice_get code.parts me.0 ≡ part →
        slice_get (unwrap_or part []) place ≡ Some there → me.0 < length hosts.hosts
    by None is_part found_there = absurd (cc)
    by (Some part) is_part found_there =
        let below = slice_get_within code.parts me.0 part is_part in
        let numbers = range_with_len 0 (length hosts.hosts) in
        let many = length-map numbers (λ number. part_on labels emissions (record { 0 = number })) in
        let as_many = length-range_with_len 0 (length hosts.hosts) in
        omega arith

    within : me.0 < length hosts.hosts
    within = by (slice_get code.parts me.0) refl is

    made : (one : Emitted) × (slice_get (emitted_on me emissions) place ≡ Some one)
        × (placed_instruction labels emissions one ≡ there)
    made =
        mapped (placed_instruction labels emissions) (emitted_on me emissions) place there
        (ap (λ list. slice_get list place) (sym (part_is labelled hosts planned emissions me within)) ∙ is)

pub get_left : {X : Type 0} (xs ys : List X) (place : ℕ) (x : X) → slice_get xs place ≡ Some x →
    slice_get (xs ++ ys) place ≡ Some x
get_left [] ys place x there = absurd (cc)
get_left (first ∷ xs) ys zero x there = there
get_left (first ∷ xs) ys (suc place) x there = get_left xs ys place x there

names_given : (labelled : Labelled) (hosts : HostsShape) (planned : PlannedShape) (main : MethodTree)
    (emissions before more : List Emission) (middle : State) → emissions ≡ before ++ more →
    FlowGoes (scope_of labelled hosts planned.plan) (start_of planned main labelled.program.methods) before middle →
    map (λ named. named.host) (entries_in (given labelled planned main emissions))
    ≡ middle.named ++ map (λ named. named.host) (entries_in more)
names_given labelled hosts planned main emissions before more middle is to =
    let methods = labelled.program.methods in
    let own : NamedEntry → HostId = λ named. named.host in
    let start = start_of planned main methods in
    let front = front_of planned main methods in
    let hosts_in : List Emission → List HostId = λ list. map own (entries_in list) in
    let two = λ (one other : List Emission).
    let is_two : hosts_in (one ++ other) ≡ hosts_in one ++ hosts_in other =
    ap (map own) (entries_append one other) ∙ map-append own (entries_in one) (entries_in other) in
    is_two in
    let first : hosts_in front ≡ start.named = ap (◌∷◌ (home_of planned main)) (front_hosts planned methods) in
    two front emissions ∙ ap (λ list. list ++ hosts_in emissions) first
    ∙ ap (λ list. start.named ++ list) (ap hosts_in is ∙ two before more)
    ∙ sym (append_assoc start.named (hosts_in before) (hosts_in more))
    ∙ ap (λ list. list ++ hosts_in more)
    (sym (names_after (scope_of labelled hosts planned.plan) start before middle to))

named_there : (labelled : Labelled) (hosts : HostsShape) (planned : PlannedShape) (main : MethodTree)
    (emissions before more : List Emission) (middle : State) → emissions ≡ before ++ more →
    FlowGoes (scope_of labelled hosts planned.plan) (start_of planned main labelled.program.methods) before middle →
    (on : HostId) (there : EntryId) → IsNamedEntryOn middle.named on there →
    sound.IsEntryOn (code_given labelled hosts planned main emissions) on there
named_there labelled hosts planned main emissions before more middle is to on there fits =
    let all = given labelled planned main emissions in
    let labels = code_labels labelled all in
    let own : NamedEntry → HostId = λ named. named.host in
    let so = mapped own (entries_in all) there.0 on
    (ap (λ list. slice_get list there.0)
    (names_given labelled hosts planned main emissions before more middle is to)
    ∙ get_left middle.named (map own (entries_in more)) there.0 on fits.1) in (
      fits.0,
      subst (λ (found : _). IsSomeAnd found (λ one. one.host ≡ on)) (sym (entry_there labels all there.0 so.0 so.1))
          so.2,
    )

-- ---- branches

pub branch_number : (scope : Scope) (state : State) (one : Emitted) (flow : Flow) (guard : _) (number : ℕ) →
    one.op ≡ op.Branch guard number → InstructionFitsFlow scope state one flow → number ≡ state.branches
branch_number scope state one stopped guard number is fits = absurd fits
branch_number scope state one (at here count) guard number is fits =
    (subst (OperationFitsScope scope state here count) is fits.1).1
branch_number scope state one (awaited here) guard number is fits = absurd fits

opened_by : (state : State) (one : Emitted) (guard : _) (number : ℕ) (me : HostId) →
    one.op ≡ op.Branch guard number → one.host ≡ me → number ≡ state.branches →
    IsAmong me number (due of_branches (after state (instruction one)))
opened_by state one guard number me is own same =
    subst (IsAmong me number) (sym (ap (λ what. (branched state one.host what).opened) is))
    (inl (ap (λ host. record { host = host; number = state.branches }) own
    ∙ ap (λ at. record { host = me; number = at }) (sym same)))

-- a branch leads to an instruction of its own host in the bodies
pub branch_leads : (labelled : Labelled) (hosts : HostsShape) (planned : PlannedShape) (main : MethodTree)
    (emissions : List Emission) (last : State) → IsWalk labelled hosts planned main emissions last →
    (before : List Emission) (one : Emitted) (behind : List Emission) →
    emissions ≡ before ++ instruction one ∷ behind → (me : HostId) → one.host ≡ me →
    (guard : _) (number : ℕ) → one.op ≡ op.Branch guard number → Placed of_branches me number emissions
branch_leads labelled hosts planned main emissions last walk before one behind is me own guard number what_is =
    let methods = labelled.program.methods in
    let scope = scope_of labelled hosts planned.plan in
    placed_from of_branches me number scope (start_of planned main methods) before (instruction one) behind
    last emissions is walk.goes (ordered_start of_branches planned main methods) walk.end.opened walk.end.stopped
    (λ middle to fits.
    let number_is = branch_number scope middle one middle.flow guard number what_is fits in
    ((let also = number_is in omega arith), opened_by middle one guard number me what_is own number_is))
    (λ others. refl)

pub branch_placed : (labelled : Labelled) (hosts : HostsShape) (planned : PlannedShape) (main : MethodTree)
    (emissions : List Emission) (last : State) → IsWalk labelled hosts planned main emissions last →
    (before : List Emission) (one : Emitted) (behind : List Emission) →
    emissions ≡ before ++ instruction one ∷ behind → (me : HostId) → one.host ≡ me →
    (guard : _) (number : ℕ) → one.op ≡ op.Branch guard number →
    Placed of_branches me number (given labelled planned main emissions)
branch_placed labelled hosts planned main emissions last walk before one behind is me own guard number what_is =
    landing_behind_front planned me number main labelled.program.methods emissions
    (branch_leads labelled hosts planned main emissions last walk before one behind is me own guard number what_is)

leads_there : (labelled : Labelled) (hosts : HostsShape) (planned : PlannedShape) (main : MethodTree)
    (emissions : List Emission) (last : State) → IsWalk labelled hosts planned main emissions last →
    (before : List Emission) (one : Emitted) (behind : List Emission) →
    emissions ≡ before ++ instruction one ∷ behind → (me : HostId) → one.host ≡ me → me.0 < length hosts.hosts →
    (state : State) (what : Op) → one.op ≡ what →
    Leads (code_given labelled hosts planned main emissions) (given labelled planned main emissions) me state what
leads_there labelled hosts planned main emissions last walk before one behind is me own within state
    (op.Branch guard number) what_is = λ same.
    let below = placed_below of_branches me number (given labelled planned main emissions)
    (branch_placed labelled hosts planned main emissions last walk before one behind is me own guard number what_is) in
    let long = long_part labelled hosts planned (given labelled planned main emissions) me within in
    omega arith
leads_there labelled hosts planned main emissions last walk before one behind is me own within state other what_is = tt

-- ---- instructions

fits_where : (labelled : Labelled) (hosts : HostsShape) (planned : PlannedShape) (main : MethodTree)
    (emissions : List Emission) (state : State) (one : Emitted) (me : HostId) (read larger : ℕ) (flow : Flow) →
    HasScope (scope_of labelled hosts planned.plan) (code_given labelled hosts planned main emissions) →
    ((on : HostId) (there : EntryId) → IsNamedEntryOn state.named on there →
    sound.IsEntryOn (code_given labelled hosts planned main emissions) on there) →
    Leads (code_given labelled hosts planned main emissions) (given labelled planned main emissions) me state one.op →
    one.host ≡ me → read ≤ larger → Under me read flow →
    InstructionFitsFlow (scope_of labelled hosts planned.plan) state one flow →
    sound.OperationFits (code_given labelled hosts planned main emissions) me larger
    (landed me (given labelled planned main emissions) one.op)
fits_where labelled hosts planned main emissions state one me read larger stopped has named leads own more so fits =
    absurd fits
fits_where labelled hosts planned main emissions state one me read larger (at here count) has named leads own more so
    fits =
    let scope = scope_of labelled hosts planned.plan in
    let on_me : here ≡ me = fits.0 ∙ own in
    let few = so on_me in
    let few_enough : count ≤ larger = omega arith in
    operation_fits scope (code_given labelled hosts planned main emissions) (given labelled planned main emissions)
    state me count larger one.op has few_enough named leads
    (subst (λ (host : HostId). OperationFitsScope scope state host count one.op) on_me fits.1)
fits_where labelled hosts planned main emissions state one me read larger (awaited here) has named leads own more so
    fits = absurd fits

reads_front : (host : HostId) (planned : PlannedShape) (main : MethodTree) (methods : List MethodTree)
    (before : List Emission) → reads host 0 (front_of planned main methods ++ before) ≡ reads host 0 before
reads_front host planned main methods before =
    let front = front_of planned main methods in
    let few = reads_fewer host 0 front (ap length (front_emitted host planned main methods)) in
    let none : reads host 0 front ≡ 0 = omega arith in
    reads_append host 0 front before ∙ ap (λ read. reads host read before) none

pub label_given : (labelled : Labelled) (label : Label) (all front : List Emission) (emission : Emission)
    (more : List Emission) → all ≡ front ++ emission ∷ more → IsLabelIn label (label_of_emission emission) →
    label_place 0 label (code_labels labelled all) < length (code_labels labelled all)
label_given labelled label all front emission more is among =
    let fields = map (λ field. field.label) labelled.program.fields in
    label_there label (fields ++ labelled.var_labels ++ flat_map label_of_emission all)
    (label_right label (fields ++ labelled.var_labels) (flat_map label_of_emission all)
    (subst (λ (list : List Emission). IsLabelIn label (flat_map label_of_emission list)) (sym is)
    (label_of_one label front emission more among)))

pub instruction_fits : (labelled : Labelled) (hosts : HostsShape) (planned : PlannedShape) (main : MethodTree)
    (emissions : List Emission) (last : State) → IsWalk labelled hosts planned main emissions last →
    HasScope (scope_of labelled hosts planned.plan) (code_given labelled hosts planned main emissions) →
    (me : HostId) → me.0 < length hosts.hosts → (spot : ℕ) (there : Instr) →
    slice_get (part_of (code_given labelled hosts planned main emissions) me) spot ≡ Some there →
    sound.InstructionFits (code_given labelled hosts planned main emissions) me spot there
instruction_fits labelled hosts planned main emissions last walk has me within spot there is =
    let code = code_given labelled hosts planned main emissions in
    let all = given labelled planned main emissions in
    let labels = code_labels labelled all in
    let methods = labelled.program.methods in
    let front = front_of planned main methods in
    let scope = scope_of labelled hosts planned.plan in
    let start = start_of planned main methods in
    let part : part_of code me ≡ part_on labels all me = part_is labelled hosts planned all me within in
    let one = mapped (placed_instruction labels all) (emitted_on me all) spot there
    (ap (λ list. slice_get list spot) (sym part) ∙ is) in
    let so = found me emissions spot one.0
    (ap (λ list. slice_get list spot) (sym (given_emitted me labelled planned main emissions)) ∙ one.1) in
    let split = halves scope start so.before (instruction one.0 ∷ so.behind) last
    (subst (λ (list : List Emission). FlowGoes scope start list last) so.is walk.goes) in
    let all_is : all ≡ (front ++ so.before) ++ instruction one.0 ∷ so.behind =
    ap (λ list. front ++ list) so.is ∙ sym (append_assoc front so.before (instruction one.0 ∷ so.behind)) in
    let place : length (emitted_on me (front ++ so.before)) ≡ spot =
    ap length (given_emitted me labelled planned main so.before) ∙ so.place in
    let known = reads_at me labels all code.entries
    (entrances labelled hosts planned main emissions last labels me walk) spot
    (front ++ so.before) one.0 so.behind all_is so.own place in
    let same_reads = reads_front me planned main methods so.before in
    let same_known = ap (λ list. temporaries_at code.entries me list spot) part in
    let more : reads me 0 so.before ≤ temporaries_at code.entries me (part_of code me) spot =
    omega (arith, known, same_reads, same_known) in
    let operation = fits_where labelled hosts planned main emissions split.middle one.0 me (reads me 0 so.before)
    (temporaries_at code.entries me (part_of code me) spot) split.middle.flow has
    (named_there labelled hosts planned main emissions so.before (instruction one.0 ∷ so.behind) split.middle so.is
    split.to)
    (leads_there labelled hosts planned main emissions last walk so.before one.0 so.behind so.is me so.own within
    split.middle one.0.op refl) so.own more (under me scope start so.before split.middle 0 split.to tt) split.from.0 in
    let P : HostId → Type 0 = λ host. sound.OperationFits code me
    (temporaries_at code.entries me (part_of code me) spot) (landed host all one.0.op) in
    let Q : Instr → Type 0 = λ what. sound.InstructionFits code me spot what in
    subst Q one.2 (record {
      label = label_given labelled one.0.label all (front ++ so.before) (instruction one.0) so.behind all_is (inl refl);
      operation = subst P (sym so.own) operation;
    })

-- ---- parts

pub part_fits : (labelled : Labelled) (hosts : HostsShape) (planned : PlannedShape) (main : MethodTree)
    (emissions : List Emission) (last : State) → IsWalk labelled hosts planned main emissions last →
    HasScope (scope_of labelled hosts planned.plan) (code_given labelled hosts planned main emissions) →
    length (given labelled planned main emissions) ≤ MOST_ITEMS → (me : HostId) → me.0 < length hosts.hosts →
    PartFits (code_given labelled hosts planned main emissions) me
part_fits labelled hosts planned main emissions last walk has few me within =
    let all = given labelled planned main emissions in
    let labels = code_labels labelled all in
    let long = long_part labelled hosts planned all me within in
    let fewer = emitted_few me all in
    let methods = labelled.program.methods in
    let leaves = leaves_last me (scope_of labelled hosts planned.plan) (start_of planned main methods) emissions last
    walk.goes walk.end.stopped in
    let P : List Instr → Type 0 = λ part. (part ≡ [])
    ⊎ IsSomeAnd (slice_get part (length part - 1)) (λ one. IsLeaving one.op) in
    record {
      few = omega arith;
      instructions = instruction_fits labelled hosts planned main emissions last walk has me within;
      end = subst P (sym (part_is labelled hosts planned all me within))
          (ends_leaving labels all (emitted_on me all)
          (subst LeavesLast (sym (given_emitted me labelled planned main emissions)) leaves));
    }
