-- The event that comes next is possible, and no other event is.
use Rattle.std.proofs.Common.{◌≡◌, ◌≢◌, ◌∙◌, ℕ, zero, suc, ◌<◌, inl, inr, true, false, List, [], ◌∷◌, length}
use Rattle.std.proofs.Common.{Option, Some, None, refl, ap, sym, subst, arith}
use Rattle.std.specs.Prelude.{IsSome, IsSomeAnd, slice_get}
use Rattle.std.proofs.lemmas.Bool.Decides.{eqb_tells}
use Rattle.js_base.specs.declared.ids.HostId.{HostId}
use Rattle.js_base.proofs.Options.{some_same}
use Rattle.jif_tree.specs.SourceRun.{Configuration}
use Rattle.capability.specs.declared.token.Token.{Token}
use Rattle.ics_stack.specs.Stack.{top_token}
use Rattle.event_text.specs.declared.event.Event.{Event}
use Rattle.event_text.specs.declared.event.Event.TheVariants.{Take, Turn, Act}
use Rattle.host_code.specs.declared.instruction.Instr.{Instr}
use Rattle.host_code.specs.declared.instruction.Op.{Op}
use Rattle.host_code.specs.declared.instruction.Op.TheVariants as op
use Rattle.host_code.specs.declared.message.Message.{Message}
use Rattle.host_code.specs.declared.message.Message.TheVariants as message
use Rattle.host_code.specs.Code.{CodeShape, instruction_at}
use Rattle.host_code.specs.Thread.{ThreadShape, WaitingShape}
use Rattle.host_code.specs.Thread.Awaited.{value_of_field, acknowledgement, token_of_entry}
use Rattle.entry_check.specs.declared.ask.Ask.TheVariants as ask
use Rattle.host_core.specs.Host.{HostState, Outcome, with_running}
use Rattle.host_core.specs.Taking.{PassesCheck, after_passing}
use Rattle.host_core.specs.Turn.{IsTurn, IsTurnOf, IsRunning, PassesWith, after_operation, with_thread, label_of_turn}
use Rattle.net_world.specs.Choice.{Runs, NoneRuns, IsNextEvent}
use Rattle.net_world.specs.Flying.{Flight, Flying}
use Rattle.net_world.specs.World.{WorldShape, IsStep, IsTurnStep, IsTakeStep, state_at, is_absent, given}
use Rattle.net_world.specs.World.{after_step, without_flight}
use Rattle.split_rules.specs.TypedCode.{IsTypedOp}
use Rattle.net_world.specs.Fits.{ShapeFits}
use Rattle.net_world.proofs.Fitting.{flight_fits}
use Rattle.net_world.proofs.Present.{same_id}
use Rattle.simulation.proofs.Simulates as simulates
use Rattle.typed_steps.specs.Views.{Split, View, entries_of}
use Rattle.typed_steps.specs.Chains.{IsChain}
use Rattle.typed_steps.specs.Variables.{HostsHold}
use Rattle.typed_steps.specs.Requests.{IsRequest, IsAnswerTo}
use Rattle.typed_steps.proofs.Instructions.{Agrees}
use Rattle.typed_steps.proofs.Transfers.{calm_calling}
use Rattle.typed_steps.proofs.ResultsGiven.{return_at}
use Rattle.typed_steps.proofs.Holding.{holder_agrees}
use Rattle.typed_steps.proofs.Pops.{top_of}
use Rattle.typed_steps.proofs.Takes.{may_here, arrival_passes}
use Rattle.typed_steps.proofs.Basics.{none_there}
use Rattle.simulation.proofs.Simulates.{only, Holder, runs, asked, answered, gives, goes, returns, halted, IsIdle}
use Rattle.simulation.proofs.Simulates.{AreIdle, Stands, IsOrderly, AreStacks, Simulates}
use Rattle.simulation.proofs.Moved.{none_taken, the_one, own_cell}
use Rattle.simulation.proofs.Pops.{top_on_stack}
use Rattle.simulation.proofs.Turning.{no_numbers}
use Rattle.simulation.proofs.Takes.{awaited_first}

-- ---- checks that pass

-- A result may be seen where its call stands, and a token that is given back here is that of the top entry.
turn_passes : (split : Split) (c : Configuration) (view : View) (world : WorldShape) (host : HostId) →
    split.exposure.bad ≡ [] → IsChain split view.naming view.chain → HostsHold split c view world →
    (run : simulates.IsRunning split c view world host) → (token : Token) →
    top_token (entries_of view.chain) ≡ Some token →
    (token.host.0 ≡ run.state.me.0 → top_token run.state.entries ≡ Some token) → (what : Op) →
    IsTypedOp split.planned split.table host run.thread.at what →
    PassesWith split.code (with_running run.state None) what run.thread.held
turn_passes split c view world host none is_chain holds run token is top op.Back law =
    subst (PassesWith split.code (with_running run.state None) op.Back) (sym (run.at.held ∙ is)) top
turn_passes split c view world host none is_chain holds run token is top (op.Ret x nodes) law =
    let thread = run.thread in
    let at = run.at in
    let held = at.held ∙ is in
    let frame = (calm_calling split c view host thread at law.3).1 in
    let knows : Agrees split c host at.call (run.state.variables thread.frame) =
    subst (λ f. Agrees split c host at.call (run.state.variables f)) (sym frame)
    (holder_agrees split c view world host run.state at.call holds run.there (no_numbers split none run.state) run.sent
    at.made) in
    let result = return_at split c view host thread (run.state.variables thread.frame) at knows is_chain
    (holds.named at.call at.made) x nodes law token held in
    subst (PassesWith split.code (with_running run.state None) (op.Ret x nodes)) (sym held) (λ differs. result.sees)
turn_passes split c view world host none is_chain holds run token is top _ law = tt

request_passes : (split : Split) (c : Configuration) (view : View) (holder owner : HostId) (waiting : WaitingShape)
    (m : Message) → IsRequest split c view holder owner waiting m → (old : HostState) → old.me ≡ owner →
    PassesCheck split.code old holder m
request_passes split c view holder owner waiting (message.Get request field place) asks old me =
    may_here split old owner (ask.Get field) holder me asks.2
request_passes split c view holder owner waiting (message.Set request field place value) asks old me =
    may_here split old owner (ask.Set field) holder me asks.2
request_passes split c view holder owner waiting (message.Forward request frame x value) asks old me =
    may_here split old owner (ask.Forward x) holder me asks.2
request_passes split c view holder owner waiting (message.Sync request frame entry token) asks old me =
    may_here split old owner (ask.Enter entry) holder me asks.2
request_passes split c view holder owner waiting _ asks old me = absurd asks

answer_passes : (split : Split) (c : Configuration) (view : View) (holder owner : HostId) (waiting : WaitingShape)
    (m : Message) → IsAnswerTo split c view holder waiting m → (state : HostState) → state.waiting ≡ waiting ∷ [] →
    waiting.asked ≡ owner → PassesCheck split.code state owner m
answer_passes split c view holder owner waiting (message.Value request value) answer state is by =
    subst IsSome (sym (awaited_first state waiting value_of_field request owner is answer.0 answer.1 by)) refl
answer_passes split c view holder owner waiting (message.Ack request) answer state is by =
    subst IsSome (sym (awaited_first state waiting acknowledgement request owner is answer.0 answer.1 by)) refl
answer_passes split c view holder owner waiting (message.Token request token) answer state is by =
    subst IsSome (sym (awaited_first state waiting token_of_entry request owner is answer.0 answer.1 by)) refl
answer_passes split c view holder owner waiting _ answer state is by = absurd answer

-- ---- turns

outcome_there : (code : CodeShape) (bare : HostState) (thread : ThreadShape) (found : Option Instr) →
    ((there : Instr) → found ≡ Some there → PassesWith code bare there.op thread.held) →
    (outcome : Outcome) × IsRunning code bare thread found outcome
outcome_there code bare thread None passes = (with_thread bare thread, refl)
outcome_there code bare thread (Some there) passes =
    (after_operation code bare thread there.op true, (true, (λ told. passes there refl, λ passing. refl), refl))

turn_possible : (split : Split) (c : Configuration) (world : WorldShape) (view : View) (holder : HostId) →
    IsOrderly split world → AreStacks view.chain world → IsChain split view.naming view.chain →
    HostsHold split c view world → (run : simulates.IsRunning split c view world holder) →
    (after : WorldShape) × IsTurnStep split.code world holder after
turn_possible split c world view holder orderly stacks is_chain holds run =
    let code = split.code in
    let state = run.state in
    let thread = run.thread in
    let bare = with_running state None in
    let me = orderly.numbers holder state run.there in
    let token = top_of split view.naming view.chain is_chain in
    let top = λ (same : token.0.host.0 ≡ state.me.0).
    let own = same_id token.0.host holder (same ∙ ap (λ (h : HostId). h.0) me) in
    let is : top_token state.entries ≡ Some token.0 =
    ap top_token (stacks holder state run.there) ∙ top_on_stack holder view.chain token.0 token.1 own in is in
    let found = instruction_at code holder thread.at in
    let one = outcome_there code bare thread found (λ there is. turn_passes split c view world holder orderly.unaffected
    is_chain holds run token.0 token.1 top there.op (split.typed.instructions holder thread.at there is).1) in
    let turns : IsTurn code state one.0 =
    subst (λ o. IsTurnOf code state o one.0) (sym run.running)
    (subst (λ m. IsRunning code bare thread (instruction_at code m thread.at) one.0) (sym me) one.1) in (
      after_step world holder one.0 (label_of_turn code state),
      record {
        state = state;
        outcome = one.0;
        obeys = run.there;
        runs = subst IsSome (sym run.running) refl;
        turns = turns;
        leaves = refl;
      },
    )

-- ---- messages

there_if : (hosts : List (Option HostState)) (place : ℕ) → place < length hosts →
    is_absent (slice_get hosts place) ≡ false → (state : HostState) × (given (slice_get hosts place) ≡ Some state)
there_if [] place within present = absurd (omega arith)
there_if (None ∷ hosts) zero within present = absurd (cc)
there_if (Some state ∷ hosts) zero within present = (state, refl)
there_if (host ∷ hosts) (suc place) within present = there_if hosts place (omega arith) present

-- the target of the one message in flight is there
target_there : (split : Split) (world : WorldShape) (from to : HostId) (flight : Flight) → ShapeFits split.code world →
    IsOrderly split world → world.flying ≡ only from to (flight ∷ []) →
    (state : HostState) × (state_at world to ≡ Some state)
target_there split world from to flight fits orderly flying =
    let there : slice_get (world.flying from to) 0 ≡ Some flight =
    ap (λ (f : Flying). slice_get (f from to) 0) flying
    ∙ ap (λ (list : List Flight). slice_get list 0) (own_cell from to (flight ∷ [])) in
    let within = (flight_fits split.code world from to 0 flight fits.mail there).target.0 in
    let count = orderly.count in
    there_if world.hosts to.0 (omega arith) (orderly.none_bad to)

take_possible : (split : Split) (world : WorldShape) (from to : HostId) (flight : Flight) (old : HostState) →
    state_at world to ≡ Some old → old.running ≡ None → world.flying ≡ only from to (flight ∷ []) →
    PassesCheck split.code old from flight.message → (after : WorldShape) × IsTakeStep split.code world from to 0 after
take_possible split world from to flight old obeys rests flying passes =
    let outcome = after_passing split.code old from flight.message in (
      after_step (without_flight world from to 0) to outcome (Some flight.label),
      record {
        state = old;
        flight = flight;
        outcome = outcome;
        there = ap (λ (f : Flying). slice_get (f from to) 0) flying
            ∙ ap (λ (list : List Flight). slice_get list 0) (own_cell from to (flight ∷ []));
        obeys = obeys;
        rests = rests;
        takes = (true, (λ told. passes, λ passing. refl), refl);
        leaves = refl;
      },
    )

-- ---- the event that is possible

-- the one event that is possible
abbrev pub event_of : Holder → Option Event
event_of (runs holder) = Some (Turn holder)
event_of (asked holder owner) = Some (Take holder owner 0)
event_of (answered holder owner) = Some (Take owner holder 0)
event_of (gives holder owner) = Some (Take holder owner 0)
event_of (goes from to) = Some (Take from to 0)
event_of (returns from to) = Some (Take from to 0)
event_of halted = None

-- it happens
pub happens : (split : Split) (c : Configuration) (world : WorldShape) (sim : Simulates split c world) →
    ShapeFits split.code world → (holder : Holder) → Stands split c sim.view world holder →
    AreIdle holder world → (event : Event) → event_of holder ≡ Some event →
    (after : WorldShape) × IsStep split.code world event after
happens split c world sim fits (runs holder) stands idle event is =
    let same : Turn holder ≡ event = cc in
    let turn = turn_possible split c world sim.view holder sim.orderly sim.stacks stands.0 sim.holds stands.1 in
    (turn.0, subst (λ e. IsStep split.code world e turn.0) same turn.1)
happens split c world sim fits (asked holder owner) stands idle event is =
    let same : Take holder owner 0 ≡ event = cc in
    let waits = stands.1.waits in
    let target = target_there split world holder owner waits.flight fits sim.orderly waits.flying in
    let one = take_possible split world holder owner waits.flight target.0 target.1
    (idle owner target.0 target.1 waits.other).0 waits.flying
    (request_passes split c sim.view holder owner waits.thread waits.flight.message stands.1.request target.0
    (sim.orderly.numbers owner target.0 target.1)) in
    (one.0, subst (λ e. IsStep split.code world e one.0) same one.1)
happens split c world sim fits (answered holder owner) stands idle event is =
    let same : Take owner holder 0 ≡ event = cc in
    let waits = stands.1.waits in
    let one = take_possible split world owner holder waits.flight waits.state waits.there waits.running waits.flying
    (answer_passes split c sim.view holder owner waits.thread waits.flight.message stands.1.answer waits.state
    waits.waiting waits.asked) in
    (one.0, subst (λ e. IsStep split.code world e one.0) same one.1)
happens split c world sim fits (gives holder owner) stands idle event is =
    let same : Take holder owner 0 ≡ event = cc in
    let giving = stands.1 in
    let waits = giving.waits in
    let target = target_there split world holder owner waits.flight fits sim.orderly waits.flying in
    let one = take_possible split world holder owner waits.flight target.0 target.1
    (idle owner target.0 target.1 waits.other).0 waits.flying
    (subst (PassesCheck split.code target.0 holder) (sym giving.message)
    (may_here split target.0 owner (ask.Forward giving.x) holder (sim.orderly.numbers owner target.0 target.1)
    giving.may)) in
    (one.0, subst (λ e. IsStep split.code world e one.0) same one.1)
happens split c world sim fits (goes from to) stands idle event is =
    let same : Take from to 0 ≡ event = cc in
    let going = stands.1 in
    let target = target_there split world from to going.flight fits sim.orderly going.flying in
    let one = take_possible split world from to going.flight target.0 target.1 (idle to target.0 target.1 tt).0
    going.flying (arrival_passes split target.0 to from going.flight.message going.arrival
    (sim.orderly.numbers to target.0 target.1) going.arrives going.goes.may) in
    (one.0, subst (λ e. IsStep split.code world e one.0) same one.1)
happens split c world sim fits (returns from to) stands idle event is =
    let same : Take from to 0 ≡ event = cc in
    let back = stands.1 in
    let target = target_there split world from to back.flight fits sim.orderly back.flying in
    let one = take_possible split world from to back.flight target.0 target.1 (idle to target.0 target.1 tt).0
    back.flying (subst (PassesCheck split.code target.0 from) (sym back.message)
    (ap top_token (sim.stacks to target.0 target.1)
    ∙ top_on_stack to sim.view.chain back.token back.top back.host)) in
    (one.0, subst (λ e. IsStep split.code world e one.0) same one.1)
happens split c world sim fits halted stands idle event is = absurd (cc)

-- ---- no other event

runs_there : (o : Option HostState) → IsSomeAnd o (λ state. IsSome state.running) →
    (state : HostState) × (o ≡ Some state) × IsSome state.running
runs_there None is = absurd is
runs_there (Some state) is = (state, refl, is)

-- a thread runs nowhere but on the holder
runs_only : (world : WorldShape) (holder : Holder) → AreIdle holder world → (host : HostId) → IsIdle holder host →
    Runs world host → ⊥
runs_only world holder idle host rests running =
    let there = runs_there (state_at world host) running in
    none_there there.0.running (idle host there.0 there.1 rests).0 there.2

-- nor on a holder that waits
runs_not : (world : WorldShape) (host holder : HostId) (state : HostState) → state_at world holder ≡ Some state →
    state.running ≡ None → host.0 ≡ holder.0 → Runs world host → ⊥
runs_not world host holder state obeys rests same running =
    let one : host ≡ holder = same_id host holder same in
    let there = runs_there (state_at world host) running in
    let is = some_same (state_at world holder) there.0 state (ap (state_at world) (sym one) ∙ there.1) obeys in
    none_there there.0.running (ap (λ (s : HostState). s.running) is ∙ rests) there.2

-- where a thread runs the holder runs it
running_holder : (split : Split) (c : Configuration) (world : WorldShape) (view : View) (holder : Holder) →
    Stands split c view world holder → AreIdle holder world → (host : HostId) → Runs world host →
    event_of holder ≡ Some (Turn host)
running_holder split c world view (runs holder) stands idle host running = elim (eqb_tells host.0 holder.0) [
  | inl same ↦ ap (λ h. Some (Turn h)) (sym (same_id host holder same.1))
  | inr apart ↦ absurd (runs_only world (runs holder) idle host apart.1 running)
]
running_holder split c world view (asked holder owner) stands idle host running =
    let waits = stands.1.waits in
    elim (eqb_tells host.0 holder.0) [
      | inl same ↦ absurd (runs_not world host holder waits.state waits.there waits.running same.1 running)
      | inr apart ↦ absurd (runs_only world (asked holder owner) idle host apart.1 running)
    ]
running_holder split c world view (answered holder owner) stands idle host running =
    let waits = stands.1.waits in
    elim (eqb_tells host.0 holder.0) [
      | inl same ↦ absurd (runs_not world host holder waits.state waits.there waits.running same.1 running)
      | inr apart ↦ absurd (runs_only world (answered holder owner) idle host apart.1 running)
    ]
running_holder split c world view (gives holder owner) stands idle host running =
    let waits = stands.1.waits in
    elim (eqb_tells host.0 holder.0) [
      | inl same ↦ absurd (runs_not world host holder waits.state waits.there waits.running same.1 running)
      | inr apart ↦ absurd (runs_only world (gives holder owner) idle host apart.1 running)
    ]
running_holder split c world view (goes from to) stands idle host running =
    absurd (runs_only world (goes from to) idle host tt running)
running_holder split c world view (returns from to) stands idle host running =
    absurd (runs_only world (returns from to) idle host tt running)
running_holder split c world view halted stands idle host running =
    absurd (runs_only world halted idle host tt running)

-- the event takes the one message in flight
takes_it : (world : WorldShape) (from to from' to' : HostId) (place : ℕ) (flight flight' : Flight) →
    world.flying ≡ only from' to' (flight' ∷ []) → slice_get (world.flying from to) place ≡ Some flight →
    Some (Take from' to' 0) ≡ Some (Take from to place)
takes_it world from to from' to' place flight flight' flying there =
    let is = the_one world from to from' to' place flight flight' flying there in
    ap (λ f. Some (Take f to' 0)) (sym is.from_is) ∙ ap (λ t. Some (Take from t 0)) (sym is.to_is)
    ∙ ap (λ p. Some (Take from to p)) (sym is.place_is)

flying_holder : (split : Split) (c : Configuration) (world : WorldShape) (view : View) (holder : Holder) →
    Stands split c view world holder → (from to : HostId) (place : ℕ) (flight : Flight) →
    slice_get (world.flying from to) place ≡ Some flight → event_of holder ≡ Some (Take from to place)
flying_holder split c world view (runs holder) stands from to place flight there =
    absurd (none_taken world from to place flight stands.1.flying there)
flying_holder split c world view (asked holder owner) stands from to place flight there =
    takes_it world from to holder owner place flight stands.1.waits.flight stands.1.waits.flying there
flying_holder split c world view (answered holder owner) stands from to place flight there =
    takes_it world from to owner holder place flight stands.1.waits.flight stands.1.waits.flying there
flying_holder split c world view (gives holder owner) stands from to place flight there =
    takes_it world from to holder owner place flight stands.1.waits.flight stands.1.waits.flying there
flying_holder split c world view (goes sender target) stands from to place flight there =
    takes_it world from to sender target place flight stands.1.flight stands.1.flying there
flying_holder split c world view (returns sender target) stands from to place flight there =
    takes_it world from to sender target place flight stands.1.flight stands.1.flying there
flying_holder split c world view halted stands from to place flight there =
    absurd (none_taken world from to place flight stands.flying there)

-- what happens is the event of the holder
step_is : (split : Split) (c : Configuration) (world after : WorldShape) (sim : Simulates split c world)
    (event : Event) → IsStep split.code world event after → event_of sim.holder ≡ Some event
step_is split c world after sim (Turn host) step =
    running_holder split c world sim.view sim.holder sim.stands sim.idle host
    (subst (λ o. IsSomeAnd o (λ state. IsSome state.running)) (sym step.obeys) step.runs)
step_is split c world after sim (Take from to place) step =
    flying_holder split c world sim.view sim.holder sim.stands from to place step.flight step.there
step_is split c world after sim (Act from to made) step =
    absurd (let none = sim.orderly.none_bad from in let bad = step.bad in cc)

-- two events that are possible are one
pub one_event : (split : Split) (c : Configuration) (world one other : WorldShape) → Simulates split c world →
    (first second : Event) → IsStep split.code world first one → IsStep split.code world second other → first ≡ second
one_event split c world one other sim first second step also =
    some_same (event_of sim.holder) first second (step_is split c world one sim first step)
    (step_is split c world other sim second also)

some_first : (flights : List Flight) → flights ≢ [] → (flight : Flight) × (slice_get flights 0 ≡ Some flight)
some_first [] apart = absurd (apart refl)
some_first (flight ∷ flights) apart = (flight, refl)

-- what comes next is the event of the holder
next_is : (split : Split) (c : Configuration) (world : WorldShape) (sim : Simulates split c world) (event : Event) →
    IsNextEvent world (Some event) → event_of sim.holder ≡ Some event
next_is split c world sim (Turn host) next =
    running_holder split c world sim.view sim.holder sim.stands sim.idle host next.runs
next_is split c world sim (Take from to place) next =
    let first = some_first (world.flying from to) next.1.target.flies in
    flying_holder split c world sim.view sim.holder sim.stands from to 0 first.0 first.1
    ∙ ap (λ p. Some (Take from to p)) (sym next.2)
next_is split c world sim (Act from to made) next = absurd next

-- and it happens
pub next_happens : (split : Split) (c : Configuration) (world : WorldShape) → Simulates split c world →
    ShapeFits split.code world → (event : Event) → IsNextEvent world (Some event) →
    (after : WorldShape) × IsStep split.code world event after
next_happens split c world sim fits event next =
    happens split c world sim fits sim.holder sim.stands sim.idle event (next_is split c world sim event next)

-- ---- the event that is possible comes next

-- where no event is possible none comes next
pub none_comes : (split : Split) (c : Configuration) (world : WorldShape) (sim : Simulates split c world) →
    event_of sim.holder ≡ None → IsNextEvent world None
none_comes split c world sim none = (
  λ host running.
      let one = running_holder split c world sim.view sim.holder sim.stands sim.idle host running in cc,
  λ from to flies.
      let first = some_first (world.flying from to) flies in
      let one = flying_holder split c world sim.view sim.holder sim.stands from to 0 first.0 first.1 in cc,
)

-- the one message in flight is the first
first_flies : (world : WorldShape) (from to : HostId) (flight : Flight) → world.flying ≡ only from to (flight ∷ []) →
    NoneRuns world → IsNextEvent world (Some (Take from to 0))
first_flies world from to flight flying none = (
  none,
  record {
    sender = λ earlier before other flies.
        let first = some_first (world.flying earlier other) flies in
        let is = the_one world earlier other from to 0 first.0 flight flying first.1 in
        let same : earlier.0 ≡ from.0 = ap (λ (h : HostId). h.0) is.from_is in
        omega arith;
    target = record {
      flies = λ nothing.
          let here : world.flying from to ≡ flight ∷ [] =
          ap (λ (f : Flying). f from to) flying ∙ own_cell from to (flight ∷ []) in
          let both : flight ∷ [] ≡ [] = sym here ∙ nothing in
          cc;
      first = λ earlier before flies.
          let first = some_first (world.flying from earlier) flies in
          let is = the_one world from earlier from to 0 first.0 flight flying first.1 in
          let same : earlier.0 ≡ to.0 = ap (λ (h : HostId). h.0) is.to_is in
          omega arith;
    };
  },
  refl,
)

none_runs : (split : Split) (c : Configuration) (world : WorldShape) (view : View) (holder : Holder) →
    Stands split c view world holder → AreIdle holder world → (from to : HostId) →
    event_of holder ≡ Some (Take from to 0) → NoneRuns world
none_runs split c world view holder stands idle from to is host running =
    let one = running_holder split c world view holder stands idle host running in cc

-- the thread of the holder is the first that runs
first_runs : (split : Split) (c : Configuration) (world : WorldShape) (view : View) (holder : HostId) →
    Stands split c view world (runs holder) → AreIdle (runs holder) world → IsNextEvent world (Some (Turn holder))
first_runs split c world view holder stands idle =
    let run = stands.1 in
    record {
      runs = subst (λ o. IsSomeAnd o (λ state. IsSome state.running)) (sym run.there)
          (subst IsSome (sym run.running) refl);
      first = λ earlier before running.
          let one = running_holder split c world view (runs holder) stands idle earlier running in
          let host : holder ≡ earlier = cc in
          let same : holder.0 ≡ earlier.0 = ap (λ (h : HostId). h.0) host in
          omega arith;
    }

comes : (split : Split) (c : Configuration) (world : WorldShape) (view : View) (holder : Holder) →
    Stands split c view world holder → AreIdle holder world → (event : Event) → event_of holder ≡ Some event →
    IsNextEvent world (Some event)
comes split c world view (runs holder) stands idle event is =
    let same : Turn holder ≡ event = cc in
    subst (λ e. IsNextEvent world (Some e)) same (first_runs split c world view holder stands idle)
comes split c world view (asked holder owner) stands idle event is =
    let same : Take holder owner 0 ≡ event = cc in
    subst (λ e. IsNextEvent world (Some e)) same
    (first_flies world holder owner stands.1.waits.flight stands.1.waits.flying
    (none_runs split c world view (asked holder owner) stands idle holder owner refl))
comes split c world view (answered holder owner) stands idle event is =
    let same : Take owner holder 0 ≡ event = cc in
    subst (λ e. IsNextEvent world (Some e)) same
    (first_flies world owner holder stands.1.waits.flight stands.1.waits.flying
    (none_runs split c world view (answered holder owner) stands idle owner holder refl))
comes split c world view (gives holder owner) stands idle event is =
    let same : Take holder owner 0 ≡ event = cc in
    subst (λ e. IsNextEvent world (Some e)) same
    (first_flies world holder owner stands.1.waits.flight stands.1.waits.flying
    (none_runs split c world view (gives holder owner) stands idle holder owner refl))
comes split c world view (goes from to) stands idle event is =
    let same : Take from to 0 ≡ event = cc in
    subst (λ e. IsNextEvent world (Some e)) same
    (first_flies world from to stands.1.flight stands.1.flying
    (none_runs split c world view (goes from to) stands idle from to refl))
comes split c world view (returns from to) stands idle event is =
    let same : Take from to 0 ≡ event = cc in
    subst (λ e. IsNextEvent world (Some e)) same
    (first_flies world from to stands.1.flight stands.1.flying
    (none_runs split c world view (returns from to) stands idle from to refl))
comes split c world view halted stands idle event is = absurd (cc)

pub one_comes : (split : Split) (c : Configuration) (world : WorldShape) (sim : Simulates split c world)
    (event : Event) → event_of sim.holder ≡ Some event → IsNextEvent world (Some event)
one_comes split c world sim event is =
    comes split c world sim.view sim.holder sim.stands sim.idle event is
