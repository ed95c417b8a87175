-- The code of a split program is paced: the numbers of its places are those of the walk.
use Rattle.std.proofs.Common.{◌≡◌, ◌∙◌, ℕ, suc, ◌+◌, ◌*◌, ◌<◌, ◌≤◌, ◌⊎◌, Bool, true, false, cond, inl, inr, List, []}
use Rattle.std.proofs.Common.{◌∷◌, ◌++◌, length, refl, ap, sym, subst, arith, append_assoc, append-nil}
use Rattle.std.specs.Prelude.{All, Option, Some, None, slice_get}
use Rattle.std.proofs.lemmas.List.{length-map}
use Rattle.std.specs.Option.{option_map}
use Rattle.std.proofs.lemmas.Option.{slice_get-map}
use Rattle.js_base.specs.declared.ids.HostId.{HostId}
use Rattle.js_base.specs.declared.ids.EntryId.{EntryId}
use Rattle.js_base.specs.declared.ids.MethodId.{MethodId}
use Rattle.js_base.specs.declared.limits.TheConstants.{PARAMETERS}
use Rattle.host_decl.specs.Hosts.{HostShape, HostsShape}
use Rattle.jif_tree.specs.Trees.{MethodTree, ProgramTree}
use Rattle.jif_tree.specs.LabelRules.{method_at, params_of}
use Rattle.host_code.specs.declared.code.Entry.{Entry}
use Rattle.host_code.specs.declared.instruction.Instr.{Instr}
use Rattle.host_code.specs.declared.instruction.Op.{Op}
use Rattle.host_code.specs.declared.instruction.Op.TheVariants as op
use Rattle.host_code.specs.Code.{CodeShape, instruction_at, halt}
use Rattle.need_labels.specs.Labelled.{Labelled}
use Rattle.msg_cost.specs.Moves.{PlannedShape}
use Rattle.split_rules.specs.Placed.{PlacedProgram, planned_from}
use Rattle.split_rules.specs.Emissions.{Emission, instruction, entry, stands, lands, Emitted, Counts, counts_after}
use Rattle.split_rules.specs.Flow.{Scope, State, FlowGoes}
use Rattle.split_rules.specs.Pace.{PACE, Allowance, is_call, is_call_there, calls_at, PacedPush, EntersLower, IsPacedOp}
use Rattle.split_rules.specs.Pace.{IsPaced}
use Rattle.split_rules.specs.SplitCode.{emitted_on, before_entry, before_landing, landed, code_labels}
use Rattle.split_rules.specs.SplitCode.{placed_instruction, code_of_emissions, split_code}
use Rattle.split_rules.specs.Splittable.{IsSplittable}
use Rattle.split_rules.specs.ThreadRun.{Thread, RunsInstructions, IsAtMain}
use Rattle.split_rules.specs.Walk.{methods_emissions}
use Rattle.split_rules.specs.WalkStart.{scope_of, front_emissions}
use Rattle.split_rules.proofs.NumberedLists.{at_all}
use Rattle.split_rules.proofs.Places.{found, emitted_append}
use Rattle.split_rules.proofs.Pendings.{of_entries, of_branches, GoesOn}
use Rattle.split_rules.proofs.Standing.{own_instruction, emitted_own, Placed}
use Rattle.split_rules.proofs.Fronts.{IsWalk, front_is, walk_there, others_stand, start_of, ordered_start}
use Rattle.split_rules.proofs.SoundParts.{given, code_given, given_emitted, part_is, entry_made}
use Rattle.split_rules.proofs.SoundInstructions.{instruction_made, branch_leads}
use Rattle.split_rules.proofs.WalkedPrograms.{program_goes}
use Rattle.split_rules.proofs.TypedSplit.{landing_place, entry_place}
use Rattle.split_rules.proofs.PacedEmissions.{calls_first, at_op, ahead, StandsNext, Paces, pace}
use Rattle.split_rules.proofs.Budgets.{HasFewHosts, methods_lead}
use Rattle.split_rules.proofs.PacedRuns.{begun_few}
use Rattle.split_rules.proofs.PacedPlaces.{numbered_from, left_in, Spot, spot_there, marked_there, stands_once}

-- what a walk and its pace give together
record Walk (labelled : Labelled) (hosts : HostsShape) (planned : PlannedShape) (main : MethodTree)
    (emissions : List Emission) : Type 0 where
  end : State
  walk : IsWalk labelled hosts planned main emissions end
  paces : Paces emissions

-- ---- entries

-- where an entry stands, and what may come there
record EntryAt (labelled : Labelled) (hosts : HostsShape) (planned : PlannedShape) (main : MethodTree)
    (emissions : List Emission) (number : ℕ) (there : Entry) : Type 0 where
  on : HostId
  placed : Placed of_entries on (suc number) emissions
  left : left_in emissions there.host.0 there.at ≡ ahead placed.behind
  few : ahead placed.behind ≤ 512

entry_left : (labelled : Labelled) (hosts : HostsShape) (planned : PlannedShape) (main : MethodTree)
    (emissions : List Emission) → Walk labelled hosts planned main emissions → (number : ℕ) (there : Entry) →
    slice_get (code_given labelled hosts planned main emissions).entries (suc number) ≡ Some there →
    EntryAt labelled hosts planned main emissions number there
entry_left labelled hosts planned main emissions walk number there is =
    let all = given labelled planned main emissions in
    let scope = scope_of labelled hosts planned.plan in
    let made = entry_made (code_labels labelled all) all (suc number) there is in
    let named = made.0 in
    let so = others_stand labelled hosts planned main emissions walk.end walk.walk number named made.1 in
    let marked = marked_there of_entries scope (start_of planned main labelled.program.methods) emissions
    (before_entry (suc number) emissions) named.host (suc number) so.1.behind walk.end so.1.is walk.walk.goes
    walk.walk.end.stopped walk.paces in
    let place = entry_place named.host labelled planned main number emissions in
    let P : Entry → Type 0 = λ it. EntryAt labelled hosts planned main emissions number it in
    subst P (sym made.2) (record {
      on = named.host;
      placed = so.1;
      left = ap (left_in emissions named.host.0) place ∙ marked.there;
      few = marked.few;
    })

call_enters : (labelled : Labelled) (hosts : HostsShape) (planned : PlannedShape) (main : MethodTree)
    (emissions : List Emission) → Walk labelled hosts planned main emissions → (me : HostId) (place : ℕ)
    (there : EntryId) → (there ≡ halt → ⊥) → left_in emissions me.0 place ≡ 513 →
    EntersLower (code_given labelled hosts planned main emissions) (left_in emissions) me place there
call_enters labelled hosts planned main emissions walk me place there not_halt here =
    numbered_from there (λ number. (entry : Entry) →
    slice_get (code_given labelled hosts planned main emissions).entries number ≡ Some entry →
    left_in emissions entry.host.0 entry.at < left_in emissions me.0 place) not_halt
    (λ number entry is.
    let so = entry_left labelled hosts planned main emissions walk number entry is in
    let few = so.few in
    rw (so.left, here) (omega arith))

-- what stands next is what is entered
next_stands : (number : ℕ) (behind : List Emission) → StandsNext number behind →
    (host : HostId) × (others : List Emission) × (behind ≡ stands host number ∷ others)
next_stands number [] next = absurd next
next_stands number (instruction one ∷ others) next = absurd next
next_stands number (entry named ∷ others) next = absurd next
next_stands number (stands host other ∷ others) next =
    (host, others, ap (λ it. stands host it ∷ others) next)
next_stands number (lands host other ∷ others) next = absurd next

go_enters : (labelled : Labelled) (hosts : HostsShape) (planned : PlannedShape) (main : MethodTree)
    (emissions : List Emission) → Walk labelled hosts planned main emissions → (before : List Emission)
    (one : Emitted) (behind : List Emission) → emissions ≡ before ++ instruction one ∷ behind → (me : HostId)
    (place : ℕ) (there : EntryId) → (there ≡ halt → ⊥) → StandsNext there.0 behind →
    left_in emissions me.0 place ≡ ahead behind + 1 →
    EntersLower (code_given labelled hosts planned main emissions) (left_in emissions) me place there
go_enters labelled hosts planned main emissions walk before one behind is me place there not_halt next here =
    numbered_from there (λ number. StandsNext number behind → (entry : Entry) →
    slice_get (code_given labelled hosts planned main emissions).entries number ≡ Some entry →
    left_in emissions entry.host.0 entry.at < left_in emissions me.0 place) not_halt
    (λ number own entry at.
    let so = entry_left labelled hosts planned main emissions walk number entry at in
    let first = next_stands (suc number) behind own in
    let front = before ++ instruction one ∷ [] in
    let split = is ∙ ap (λ list. before ++ instruction one ∷ list) first.2
    ∙ sym (append_assoc before (instruction one ∷ []) (stands first.0 (suc number) ∷ first.1)) in
    let once = stands_once (scope_of labelled hosts planned.plan) (start_of planned main labelled.program.methods)
    emissions front first.0 (suc number) first.1 walk.end split walk.walk.goes
    (ordered_start of_entries planned main labelled.program.methods) so.on so.placed in
    let same = ap ahead once in
    let same_behind = ap ahead first.2 in
    rw (so.left, here) (omega arith))
    next

-- ---- pushes

call_ahead : (xs : List Emission) → calls_first xs ≡ true → ahead xs ≡ 513
call_ahead [] calls = absurd (cc)
call_ahead (instruction one ∷ xs) calls = by one.op calls
  where
    by : (what : Op) → is_call what ≡ true → at_op what (calls_first xs) (ahead xs) ≡ 513
    by (op.Call there on) is = refl
    by (op.CallWith there on riders) is = refl
    by other is = absurd (cc)
call_ahead (entry named ∷ xs) calls = absurd (cc)
call_ahead (stands host number ∷ xs) calls = absurd (cc)
call_ahead (lands host number ∷ xs) calls = absurd (cc)

pushes_paced : (left : Allowance) (me : HostId) (place behind : ℕ) (called there : Bool) →
    (called ≡ true → there ≡ true) → (called ≡ true → behind ≡ 513) →
    left me.0 place ≡ cond called 3 (behind + 2) → left me.0 (suc place) ≡ behind → PacedPush left me place there
pushes_paced left me place behind true true agrees few here next =
    let is = few refl in rw (here, next) (omega arith)
pushes_paced left me place behind true false agrees few here next = let never = agrees refl in absurd (cc)
pushes_paced left me place behind false true agrees few here next = rw (here, next) (omega arith)
pushes_paced left me place behind false false agrees few here next = rw (here, next) (omega arith)

get_right : {X : Type 0} (xs ys : List X) (number : ℕ) →
    slice_get (xs ++ ys) (length xs + number) ≡ slice_get ys number
get_right [] ys number = let none : 0 + number ≡ number = omega arith in ap (slice_get ys) none
get_right (x ∷ xs) ys number =
    let next : length (x ∷ xs) + number ≡ suc (length xs + number) = omega arith in
    ap (slice_get (x ∷ xs ++ ys)) next ∙ get_right xs ys number

landed_call : (host : HostId) (emissions : List Emission) (what : Op) →
    is_call (landed host emissions what) ≡ is_call what
landed_call host emissions (op.Branch guard number) = refl
landed_call host emissions other = refl

-- the instruction behind another one of the host
next_there : (labelled : Labelled) (hosts : HostsShape) (planned : PlannedShape) (main : MethodTree)
    (emissions before : List Emission) (one next : Emitted) (others : List Emission) →
    emissions ≡ before ++ instruction one ∷ instruction next ∷ others → (me : HostId) →
    me.0 < length hosts.hosts → one.host ≡ me → next.host ≡ me →
    calls_at (code_given labelled hosts planned main emissions) me (suc (length (emitted_on me before)))
    ≡ is_call next.op
next_there labelled hosts planned main emissions before one next others is me within own next_own =
    let all = given labelled planned main emissions in
    let labels = code_labels labelled all in
    let place = length (emitted_on me before) in
    let behind = instruction one ∷ instruction next ∷ others in
    let sum : suc place ≡ place + 1 = omega arith in
    let emitted = ap (emitted_on me) is ∙ emitted_append me before behind
    ∙ ap (λ list. emitted_on me before ++ list)
    (emitted_own me one (instruction next ∷ others) own ∙ ap (◌∷◌ one) (emitted_own me next others next_own)) in
    let there : slice_get (emitted_on me all) (suc place) ≡ Some next =
    ap (λ list. slice_get list (suc place)) (given_emitted me labelled planned main emissions ∙ emitted)
    ∙ ap (slice_get (emitted_on me before ++ one ∷ next ∷ emitted_on me others)) sum
    ∙ get_right (emitted_on me before) (one ∷ next ∷ emitted_on me others) 1 in
    ap (λ part. is_call_there (slice_get part (suc place))) (part_is labelled hosts planned all me within)
    ∙ ap is_call_there (slice_get-map (placed_instruction labels all) (emitted_on me all) (suc place)
    ∙ ap (option_map (placed_instruction labels all)) there)
    ∙ landed_call next.host all next.op

call_follows : (labelled : Labelled) (hosts : HostsShape) (planned : PlannedShape) (main : MethodTree)
    (emissions before : List Emission) (one : Emitted) (behind : List Emission) →
    emissions ≡ before ++ instruction one ∷ behind → (me : HostId) → me.0 < length hosts.hosts → one.host ≡ me →
    (scope : Scope) (state last : State) → FlowGoes scope state behind last → GoesOn me state.flow →
    calls_first behind ≡ true →
    calls_at (code_given labelled hosts planned main emissions) me (suc (length (emitted_on me before))) ≡ true
call_follows labelled hosts planned main emissions before one [] is me within own scope state last goes on calls =
    absurd (cc)
call_follows labelled hosts planned main emissions before one (instruction next ∷ others) is me within own scope state
    last goes on calls =
    next_there labelled hosts planned main emissions before one next others is me within own
    (own_instruction me scope state next state.flow goes.0 on) ∙ calls
call_follows labelled hosts planned main emissions before one (entry named ∷ others) is me within own scope state last
    goes on calls = absurd (cc)
call_follows labelled hosts planned main emissions before one (stands host number ∷ others) is me within own scope
    state last goes on calls = absurd (cc)
call_follows labelled hosts planned main emissions before one (lands host number ∷ others) is me within own scope
    state last goes on calls = absurd (cc)

-- ---- instructions

not_leaving : {Q : Type 0} → ⊥ ⊎ Q → Q
not_leaving (inl never) = absurd never
not_leaving (inr so) = so

op_paced : (labelled : Labelled) (hosts : HostsShape) (planned : PlannedShape) (main : MethodTree)
    (emissions : List Emission) → Walk labelled hosts planned main emissions → (before : List Emission)
    (one : Emitted) (behind : List Emission) → emissions ≡ before ++ instruction one ∷ behind → (me : HostId) →
    me.0 < length hosts.hosts → one.host ≡ me → (what : Op) → one.op ≡ what →
    IsPacedOp (code_given labelled hosts planned main emissions) (left_in emissions) me (length (emitted_on me before))
    (landed me (given labelled planned main emissions) what)
op_paced labelled hosts planned main emissions walk before one behind is me within own what what_is =
    let P : Op → Type 0 = λ it. Spot scope emissions me (length (emitted_on me before)) it behind walk.end in
    by what what_is (subst P what_is (spot_there scope start emissions before one behind walk.end is walk.walk.goes
    walk.walk.end.stopped walk.paces me own))
  where
    scope : Scope
    scope = scope_of labelled hosts planned.plan

    start : State
    start = start_of planned main labelled.program.methods

    place : ℕ
    place = length (emitted_on me before)

    left : Allowance
    left = left_in emissions

    steps : left me.0 (suc place) ≡ ahead behind → left me.0 place ≡ 20 → ahead behind ≤ 530 →
        left me.0 (suc place) + 1 < left me.0 place + PACE
    steps next here few = rw (here, next) (omega arith)

    moves : left me.0 (suc place) ≡ ahead behind → left me.0 place ≡ ahead behind + 1 →
        left me.0 (suc place) < left me.0 place
    moves next here = rw (here, next) (omega arith)

    by : (it : Op) → one.op ≡ it → Spot scope emissions me place it behind walk.end →
        IsPacedOp (code_given labelled hosts planned main emissions) left me place
        (landed me (given labelled planned main emissions) it)
    by (op.Let x value) it_is spot = steps (not_leaving spot.next) spot.here spot.paces
    by (op.Put field index value) it_is spot = steps (not_leaving spot.next) spot.here spot.paces
    by (op.Ret x value) it_is spot = steps (not_leaving spot.next) spot.here spot.paces
    by (op.Branch guard number) it_is spot =
        let placed = branch_leads labelled hosts planned main emissions walk.end walk.walk before one behind is me own
        guard number it_is in
        let marked = marked_there of_branches scope start emissions (before_landing number emissions) me number
        placed.behind walk.end placed.is walk.walk.goes walk.walk.end.stopped walk.paces in
        let target = ap (left me.0) (landing_place me labelled planned main number emissions) ∙ marked.there in
        let few = marked.few in
        let here = spot.here in
        (steps (not_leaving spot.next) here spot.paces, rw (target, here) (omega arith))
    by (op.Push there) it_is spot =
        pushes_paced left me place (ahead behind) (calls_first behind) _
        (call_follows labelled hosts planned main emissions before one behind is me within own scope spot.state walk.end
        spot.goes (not_leaving spot.flow)) (call_ahead behind) spot.here (not_leaving spot.next)
    by (op.Ask there on) it_is spot =
        let next = not_leaving spot.next in let here = spot.here in rw (here, next) (omega arith)
    by (op.Go there on) it_is spot =
        go_enters labelled hosts planned main emissions walk before one behind is me place there spot.names spot.paces
        spot.here
    by (op.Call there on) it_is spot =
        call_enters labelled hosts planned main emissions walk me place there spot.names spot.here
    by (op.GoWith there on riders) it_is spot =
        go_enters labelled hosts planned main emissions walk before one behind is me place there spot.names spot.paces
        spot.here
    by (op.CallWith there on riders) it_is spot =
        call_enters labelled hosts planned main emissions walk me place there spot.names spot.here
    by op.Back it_is spot = let here = spot.here in rw here (omega arith)
    by other it_is spot = moves (not_leaving spot.next) spot.here

-- ---- the code

instructions_paced : (labelled : Labelled) (hosts : HostsShape) (planned : PlannedShape) (main : MethodTree)
    (emissions : List Emission) → Walk labelled hosts planned main emissions → (me : HostId) (place : ℕ)
    (there : Instr) → instruction_at (code_given labelled hosts planned main emissions) me place ≡ Some there →
    IsPacedOp (code_given labelled hosts planned main emissions) (left_in emissions) me place there.op
instructions_paced labelled hosts planned main emissions walk me place there is =
    let made = instruction_made labelled hosts planned all me place there is in
    let within = made.0 in
    let one = made.1 in
    let so = found me emissions place one.0
    (ap (λ list. slice_get list place) (sym (given_emitted me labelled planned main emissions)) ∙ one.1) in
    let P : ℕ → Type 0 = λ at. IsPacedOp code (left_in emissions) me at (landed me all one.0.op) in
    let Q : HostId → Type 0 = λ host. IsPacedOp code (left_in emissions) me place (landed host all one.0.op) in
    let R : Instr → Type 0 = λ it. IsPacedOp code (left_in emissions) me place it.op in
    subst R one.2 (subst Q (sym so.own) (subst P so.place
    (op_paced labelled hosts planned main emissions walk so.before one.0 so.behind so.is me within so.own one.0.op
    refl)))
  where
    code : CodeShape
    code = code_given labelled hosts planned main emissions

    all : List Emission
    all = given labelled planned main emissions

code_paced : (labelled : Labelled) (hosts : HostsShape) (planned : PlannedShape) (main : MethodTree)
    (emissions : List Emission) → Walk labelled hosts planned main emissions →
    IsPaced (code_given labelled hosts planned main emissions) (left_in emissions)
code_paced labelled hosts planned main emissions walk = record {
  entries = λ number there is.
      let so = entry_left labelled hosts planned main emissions walk number there is in
      let few = so.few in
      rw so.left (omega arith);
  instructions = instructions_paced labelled hosts planned main emissions walk;
}

-- ---- limits

pub few_params : (program : ProgramTree) →
    All (λ (method : MethodTree). length method.params ≤ PARAMETERS) program.methods → (method : MethodId) →
    length (params_of (method_at program method)) ≤ 8
few_params program all method = by (slice_get program.methods method.0) refl
  where
    by : (called : Option MethodTree) → slice_get program.methods method.0 ≡ called → length (params_of called) ≤ 8
    by None is = omega arith
    by (Some tree) is =
        at_all (λ (one : MethodTree). length one.params ≤ PARAMETERS) program.methods method.0 tree all is

-- The code that a program is split into is paced, since the program is within the limits.
pub split_is_paced : (placed : PlacedProgram) → IsSplittable placed →
    (left : Allowance) × IsPaced (split_code placed) left
split_is_paced placed splittable =
    subst P (sym (front_is placed.labelled planned main splittable.numbered.main.1))
    (left_in emissions, code_paced placed.labelled placed.hosts planned main emissions walk)
  where
    planned : PlannedShape
    planned = planned_from placed

    main : MethodTree
    main = splittable.numbered.main.0

    counts : Counts
    counts = counts_after (record { entries = 0; branches = 0 })
        (front_emissions placed.labelled (planned_from placed))

    emissions : List Emission
    emissions = methods_emissions placed.hosts.principals placed.labelled planned counts 0
        placed.labelled.program.methods

    few_hosts : HasFewHosts (planned_from placed)
    few_hosts =
        let named = length-map placed.hosts.hosts (λ (one : HostShape). one.name) in
        let few = splittable.are_hosts.names.few in
        omega arith

    walk : Walk placed.labelled placed.hosts planned main emissions
    walk =
        let goes = program_goes placed splittable in
        record {
          end = goes.0;
          walk = walk_there placed emissions goes.0 splittable goes.1 goes.2;
          paces = subst Paces (append-nil emissions) ((methods_lead pace placed.hosts.principals placed.labelled planned
              few_hosts (few_params placed.labelled.program splittable.within.params) 0 placed.labelled.program.methods
              splittable.numbered.methods splittable.within.nodes counts).before [] (tt, omega arith)).0;
        }

    P : List Emission → Type 0
    P front = (left : Allowance) × IsPaced (code_of_emissions placed.labelled placed.hosts planned (front
        ++ emissions)) left

-- So its threads run few instructions.
pub split_runs_few : (placed : PlacedProgram) → IsSplittable placed → (count steps : ℕ) (first last : Thread) →
    IsAtMain (split_code placed) first →
    RunsInstructions (split_code placed) count steps first last → count ≤ PACE * (steps + 1)
split_runs_few placed splittable count steps first last begun runs =
    let paced = split_is_paced placed splittable in
    let number_of : EntryId → ℕ = λ there. there.0 in
    begun_few (split_code placed) paced.0 paced.1
    (λ is. let same = ap number_of is in omega arith) count steps first last begun runs
