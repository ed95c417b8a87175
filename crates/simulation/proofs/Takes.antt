-- Taking the one message in flight: a request by its owner, an answer by the host that waits, or the token.
use Rattle.std.proofs.Common.{◌≡◌, ◌≢◌, ◌∙◌, ℕ, ◌⊎◌, inl, inr, Bool, true, List, [], ◌∷◌, Some, None, refl, ap}
use Rattle.std.proofs.Common.{sym, subst, arith, ◌+◌, ◌<◌, ◌≤◌, length}
use Rattle.std.specs.Prelude.{◌*◌}
use Rattle.std.specs.Prelude.{slice_get, position, remove}
use Rattle.std.specs.Option.{option_map}
use Rattle.std.proofs.lemmas.Bool.{eq-eqb}
use Rattle.js_base.specs.declared.ids.HostId.{HostId}
use Rattle.js_base.specs.declared.ids.RequestId.{RequestId}
use Rattle.js_base.proofs.Options.{some_same}
use Rattle.jif_tree.specs.SourceRun.{Configuration, step}
use Rattle.ics_stack.specs.Stack.{top_token}
use Rattle.host_code.specs.declared.message.Message.{Message}
use Rattle.host_code.specs.declared.message.Message.TheVariants as message
use Rattle.host_code.specs.Thread.{ThreadShape, Awaited, WaitingShape}
use Rattle.host_code.specs.Thread.Awaited.{value_of_field, acknowledgement, token_of_entry}
use Rattle.host_core.specs.Awaiting.{awaits, is_same_answer}
use Rattle.host_core.specs.Host.{HostState, Outcome, without_message}
use Rattle.host_core.specs.Host.{after_pop}
use Rattle.host_core.specs.Host.{with_running}
use Rattle.host_core.specs.Taking.{IsTaking, place_of_awaiting}
use Rattle.split_rules.specs.Pace.{PACE}
use Rattle.net_world.specs.Flying.{Flight}
use Rattle.net_world.specs.World.{WorldShape, IsTakeStep, state_at, without_flight, after_step}
use Rattle.net_world.proofs.Moved.{Moved, mover_state, other_state, moved_silent}
use Rattle.typed_steps.specs.Views.{Split, View, with_out}
use Rattle.typed_steps.specs.Chains.{IsChain}
use Rattle.typed_steps.specs.Threads.{IsAt}
use Rattle.typed_steps.specs.Variables.{HasWhatIsOwed, HostsHold}
use Rattle.typed_steps.specs.Requests.{IsAnswerTo, starting}
use Rattle.typed_steps.specs.Weights.{Paced, STEP, weight_at, IsFueledRequest}
use Rattle.typed_steps.proofs.HeldSteps.{holds_same, holds_calm}
use Rattle.typed_steps.proofs.Takes.{passing}
use Rattle.simulation.proofs.Simulates.{on_stack, only, runs, asked, answered, gives, goes, returns, halted, Holder}
use Rattle.simulation.proofs.Simulates.{IsIdle, IsWaiting, IsAsked, IsAnswered, IsGiving, IsGoing, IsReturning, AreIdle}
use Rattle.simulation.proofs.Simulates.{Simulates, Falls, Goes}
use Rattle.simulation.proofs.Moved.{moved_telling, the_one, emptied}
use Rattle.simulation.proofs.Kept.{orderly_moved, NoneHalted, none_halted_moved, stacks_moved, idle_moved}
use Rattle.simulation.proofs.Pops.{top_on_stack, Ended, Continued, popped}
use Rattle.simulation.proofs.Turning.{own_grown, others_grown, no_numbers}
use Rattle.typed_steps.specs.Takes as takes
use Rattle.typed_steps.proofs.Takes as typed

-- ---- requests and results

-- the owner of a request has answered
answers : (split : Split) (c now : Configuration) (world after : WorldShape) (sim : Simulates split c world)
    (before : Holder) (holder owner : HostId) → AreIdle before world → NoneHalted world →
    ((other : HostId) → other.0 ≢ owner.0 → IsIdle (answered holder owner) other → IsIdle before other) →
    IsIdle before owner →
    (waits : IsWaiting split sim.view world holder owner holder owner) (old : HostState) (label : ℕ)
    (outcome : Outcome) → state_at world owner ≡ Some old →
    after_step (without_flight world holder owner 0) owner outcome (Some label) ≡ after → (enough : ℕ → Type 0) →
    (Paced split → enough sim.fuel) → (more most : ℕ) → sim.fuel + more ≤ most →
    takes.AnswersRequest split sim.view world holder owner waits.thread old enough now more outcome →
    Falls split now most after
answers split c now world after sim before holder owner idle none_halted idles rests waits old label outcome obeys
    leaves enough fueled more most least a =
    let new = a.new in
    let seen = a.seen in
    let flight : Flight = record { message = a.answer; label = label } in
    let flying = only owner holder (flight ∷ []) in
    let left = without_flight world holder owner 0 in
    let stepped = moved_telling left owner outcome old new holder a.answer label after obeys sim.orderly.none_bad
    (emptied world holder owner waits.flight waits.flying) a.is leaves in
    let moved : Moved world owner new flying after = record { hosts = stepped.hosts; flying = stepped.flying } in
    let rested = idle owner old obeys rests in
    record {
      now = record {
        view = seen;
        holder = answered holder owner;
        orderly = orderly_moved split world after owner old new flying sim.orderly obeys moved a.steady.me
            a.steady.ignored;
        stacks = stacks_moved sim.view.chain seen.chain world after owner old new flying sim.stacks obeys moved
            (own_grown owner sim.view.chain seen.chain old.entries new.entries a.grown (sim.stacks owner old obeys))
            (others_grown owner sim.view.chain seen.chain old.entries new.entries a.grown);
        idle = idle_moved before (answered holder owner) world after owner old new flying idle obeys moved idles
            (λ rests. (a.running ∙ rested.0, a.steady.waiting ∙ rested.1));
        goes_on = none_halted_moved world after owner old new flying none_halted obeys moved
            (a.steady.halted ∙ none_halted owner old obeys);
        holds = a.keeps after moved.hosts;
        stands = (
          a.is_chain,
          record {
            waits = record {
              state = waits.state;
              there = other_state world after owner holder new flying moved (λ same. waits.other (sym same))
                  ∙ waits.there;
              thread = waits.thread;
              flight = flight;
              running = waits.running;
              waiting = waits.waiting;
              asked = waits.asked;
              other = waits.other;
              sent = a.sent waits.state waits.sent;
              flying = moved.flying;
            };
            answer = a.ready;
          },
        );
        fuel = weight_at split seen.chain holder waits.thread.thread.at + 1;
        fueled = λ paced. omega arith;
      };
      less = λ paced. let less = a.pace paced sim.fuel (fueled paced) in omega arith;
    }

-- with a step of the plain run or without one
answers_any : (split : Split) (c : Configuration) (world after : WorldShape) (sim : Simulates split c world)
    (before : Holder) (holder owner : HostId) → AreIdle before world → NoneHalted world →
    ((other : HostId) → other.0 ≢ owner.0 → IsIdle (answered holder owner) other → IsIdle before other) →
    IsIdle before owner →
    (waits : IsWaiting split sim.view world holder owner holder owner) (old : HostState) (label : ℕ)
    (outcome : Outcome) → state_at world owner ≡ Some old →
    after_step (without_flight world holder owner 0) owner outcome (Some label) ≡ after → (enough : ℕ → Type 0) →
    (Paced split → enough sim.fuel) →
    takes.Answered split c sim.view world holder owner waits.thread old enough outcome → Goes split c sim.fuel after
answers_any split c world after sim before holder owner idle none_halted idles rests waits old label outcome obeys
    leaves enough fueled (takes.answers a) =
    inl (answers split c c world after sim before holder owner idle none_halted idles rests waits old label outcome
    obeys leaves enough fueled 0 sim.fuel (omega arith) a)
answers_any split c world after sim before holder owner idle none_halted idles rests waits old label outcome obeys
    leaves enough fueled (takes.steps now does a) =
    inr (
      now,
      does,
      answers split c now world after sim before holder owner idle none_halted idles rests waits old label outcome obeys
          leaves enough fueled STEP (sim.fuel + STEP) (omega arith) a,
    )

-- who owns what is asked for
owner_of : (split : Split) (c : Configuration) (world : WorldShape) (sim : Simulates split c world) →
    IsChain split sim.view.naming sim.view.chain → (owner : HostId) (old : HostState) →
    state_at world owner ≡ Some old → takes.IsOwner split c sim.view world owner old
owner_of split c world sim is_chain owner old obeys = record {
  there = obeys;
  me = sim.orderly.numbers owner old obeys;
  numbers = no_numbers split sim.orderly.unaffected old;
  is_chain = is_chain;
  holds = sim.holds;
}

-- ---- answers

same_answer : (awaited : Awaited) → is_same_answer awaited awaited ≡ true
same_answer value_of_field = refl
same_answer acknowledgement = refl
same_answer token_of_entry = refl

first_passes : {X : Type 0} (p : X → Bool) (x : X) → p x ≡ true → position p (x ∷ []) ≡ Some 0
first_passes p x passes = rw passes refl

-- the one thread that waits is the one that is answered
pub awaited_first : (state : HostState) (waiting : WaitingShape) (awaited : Awaited) (request : RequestId)
    (from : HostId) → state.waiting ≡ waiting ∷ [] → waiting.awaited ≡ awaited → waiting.request ≡ request →
    waiting.asked ≡ from → place_of_awaiting state awaited request from ≡ Some 0
awaited_first state waiting awaited request from is kind number by =
    let own : awaits awaited request from (record {
      thread = waiting.thread;
      awaited = awaited;
      request = request;
      asked = from;
    }) ≡ true =
    rw (
      same_answer awaited,
      eq-eqb request.at request.at refl,
      eq-eqb request.count request.count refl,
      eq-eqb from.0 from.0 refl,
    ) refl in
    let passes : awaits awaited request from waiting ≡ true =
    ap (λ a. awaits awaited request from (record waiting { awaited = a })) kind
    ∙ ap (λ r. awaits awaited request from (record waiting { awaited = awaited; request = r })) number
    ∙ ap (λ h. awaits awaited request from (record waiting { awaited = awaited; request = request; asked = h })) by
    ∙ own in
    ap (position (awaits awaited request from)) is ∙ first_passes (awaits awaited request from) waiting passes

-- a host runs again, or anew, and nothing is in flight
begins : (split : Split) (c : Configuration) (world after : WorldShape) (sim : Simulates split c world)
    (before : Holder) (from host : HostId) (flight : Flight) (seen : View) → AreIdle before world → NoneHalted world →
    ((other : HostId) → other.0 ≢ host.0 → IsIdle before other) → world.flying ≡ only from host (flight ∷ []) →
    (old new : HostState) (thread : ThreadShape) → state_at world host ≡ Some old → new.me ≡ old.me →
    new.ignored ≡ old.ignored → new.halted ≡ old.halted → new.running ≡ Some thread → new.waiting ≡ [] →
    new.entries ≡ on_stack host seen.chain →
    ((other : HostId) → other.0 ≢ host.0 → on_stack other seen.chain ≡ on_stack other sim.view.chain) →
    (outcome : Outcome) (label : ℕ) → without_message new ≡ outcome →
    after_step (without_flight world from host 0) host outcome (Some label) ≡ after →
    IsChain split seen.naming seen.chain →
    (Moved world host new (without_flight world from host 0).flying after → HostsHold split c seen after) →
    HasWhatIsOwed split seen new host → IsAt split c seen host thread →
    (Paced split → weight_at split seen.chain host thread.at < sim.fuel) → Goes split c sim.fuel after
begins split c world after sim before from host flight seen idle none_halted apart flying old new thread obeys me
    ignored halts running waiting entries others outcome label is leaves is_chain holds sent at less =
    let left = without_flight world from host 0 in
    let stepped = moved_silent left host outcome new (Some label) after is leaves in
    let moved : Moved world host new left.flying after = record { hosts = stepped.hosts; flying = stepped.flying } in
    inl (record {
      now = record {
        view = seen;
        holder = runs host;
        orderly = orderly_moved split world after host old new left.flying sim.orderly obeys moved me ignored;
        stacks = stacks_moved sim.view.chain seen.chain world after host old new left.flying sim.stacks obeys moved
            entries others;
        idle = idle_moved before (runs host) world after host old new left.flying idle obeys moved
            (λ other differs rests. apart other differs) (λ rests. absurd (rests refl));
        goes_on = none_halted_moved world after host old new left.flying none_halted obeys moved
            (halts ∙ none_halted host old obeys);
        holds = holds moved;
        stands = (
          is_chain,
          record {
            state = new;
            there = mover_state world after host old new left.flying obeys moved;
            thread = thread;
            running = running;
            waiting = waiting;
            sent = sent;
            flying = moved.flying ∙ emptied world from host flight flying;
            at = at;
          },
        );
        fuel = weight_at split seen.chain host thread.at;
        fueled = λ paced. omega arith;
      };
      less = less;
    })

-- the host that waits goes on as it is after the answer
answer_taken : (split : Split) (c : Configuration) (world after : WorldShape) (sim : Simulates split c world)
    (holder owner : HostId) → AreIdle (answered holder owner) world → NoneHalted world →
    IsChain split sim.view.naming sim.view.chain → (waits : IsWaiting split sim.view world holder owner owner holder)
    (m : Message) → IsAnswerTo split c sim.view holder waits.thread m → (outcome : Outcome) (label : ℕ) →
    IsTaking split.code waits.state owner m outcome →
    after_step (without_flight world owner holder 0) holder outcome (Some label) ≡ after →
    (Paced split → weight_at split sim.view.chain holder waits.thread.thread.at + 1 ≤ sim.fuel) →
    Goes split c sim.fuel after
answer_taken split c world after sim holder owner idle none_halted is_chain waits m answer outcome label taking leaves
    fueled =
    let state = waits.state in
    let first = awaited_first state waits.thread waits.thread.awaited waits.thread.request owner waits.waiting refl refl
    waits.asked in
    let resumes = typed.answer_taken split c sim.view holder owner waits.thread state 0 first m answer outcome taking in
    let thread = resumes.change waits.thread.thread in
    let new : HostState = record state { running = Some thread; waiting = [] } in
    let done : without_message new ≡ outcome =
    sym (ap (λ (list : List WaitingShape). without_message (record state {
      running = option_map (λ waiting. resumes.change waiting.thread) (slice_get list 0);
      waiting = remove list 0;
    })) waits.waiting)
    ∙ resumes.is in
    begins split c world after sim (answered holder owner) owner holder waits.flight sim.view idle none_halted
    (λ other apart. apart) waits.flying state new thread waits.there refl refl refl refl refl
    (sim.stacks holder state waits.there) (λ other apart. refl) outcome label done leaves is_chain
    (λ moved. holds_same split c sim.view world after holder state new _ sim.holds waits.there moved refl refl refl)
    waits.sent resumes.at
    (λ paced. let some = fueled paced in let stays = resumes.stays in
    let weights : weight_at split sim.view.chain holder thread.at
    ≡ weight_at split sim.view.chain holder waits.thread.thread.at =
    ap (weight_at split sim.view.chain holder) stays in omega arith)

-- ---- the token

-- an entry is gone to, and what rode is there
token_goes : (split : Split) (c : Configuration) (world after : WorldShape) (sim : Simulates split c world)
    (from to : HostId) → AreIdle (goes from to) world → NoneHalted world →
    IsChain split sim.view.naming sim.view.chain → (going : IsGoing split c sim.view world from to) (old : HostState) →
    state_at world to ≡ Some old → (outcome : Outcome) (label : ℕ) →
    IsTaking split.code old from going.flight.message outcome →
    after_step (without_flight world from to 0) to outcome (Some label) ≡ after →
    (Paced split → weight_at split sim.view.chain to going.goes.there.at + 1 ≤ sim.fuel) → Goes split c sim.fuel after
token_goes split c world after sim from to idle none_halted is_chain going old obeys outcome label takes leaves fueled =
    let comes = typed.arrival_taken split c sim.view world from to old
    (owner_of split c world sim is_chain to old obeys) going.flight.message going.arrival going.arrives going.goes
    outcome takes in
    let steady = comes.steady in
    let rested = idle to old obeys tt in
    begins split c world after sim (goes from to) from to going.flight (with_out sim.view []) idle none_halted
    (λ other apart. tt) going.flying old comes.new _ obeys steady.me steady.ignored steady.halted comes.running
    (steady.waiting ∙ rested.1) (comes.entries ∙ sim.stacks to old obeys) (λ other apart. refl) outcome label comes.is
    leaves is_chain (λ moved. comes.keeps after moved.hosts) tt going.goes.at
    (λ paced. let some = fueled paced in omega arith)

-- the token comes back
token_returns : (split : Split) (c : Configuration) (world after : WorldShape) (sim : Simulates split c world)
    (from to : HostId) → AreIdle (returns from to) world → NoneHalted world →
    IsChain split sim.view.naming sim.view.chain → (back : IsReturning split c sim.view world from to)
    (old : HostState) → state_at world to ≡ Some old → (outcome : Outcome) (label : ℕ) →
    IsTaking split.code old from (message.Lgoto back.token) outcome →
    after_step (without_flight world from to 0) to outcome (Some label) ≡ after →
    (Ended split c sim.view.chain to old ⊎ Continued split c sim.view sim.view.chain to old) →
    (Paced split → 3 * (PACE + length sim.view.chain) ≤ sim.fuel + 1) → Goes split c sim.fuel after
token_returns split c world after sim from to idle none_halted is_chain back old obeys outcome label takes leaves
    (inl ended) fueled =
    let view = sim.view in
    let stack = sim.stacks to old obeys in
    let new : HostState = record old { entries = []; running = None; halted = true } in
    let passed = passing split old from (message.Lgoto back.token) outcome takes
    (ap top_token stack ∙ top_on_stack to view.chain back.token back.top back.host) in
    let done : without_message new ≡ outcome =
    sym (ap (λ list. without_message (after_pop split.code old list)) stack ∙ ap without_message ended.is) ∙ passed in
    let left = without_flight world from to 0 in
    let stepped = moved_silent left to outcome new (Some label) after done leaves in
    let moved : Moved world to new left.flying after = record { hosts = stepped.hosts; flying = stepped.flying } in
    let rested = idle to old obeys tt in
    inl (record {
      now = record {
        view = starting view [] view.sender;
        holder = halted;
        orderly = orderly_moved split world after to old new left.flying sim.orderly obeys moved refl refl;
        stacks = stacks_moved view.chain [] world after to old new left.flying sim.stacks obeys moved refl ended.others;
        idle = idle_moved (returns from to) halted world after to old new left.flying idle obeys moved
            (λ other apart rests. tt) (λ rests. (refl, rested.1));
        goes_on = tt;
        holds = holds_calm split c view after [] view.sender
            (holds_same split c view world after to old new left.flying sim.holds obeys moved refl refl refl)
            back.none_out;
        stands = record {
          state = new;
          there = ap (state_at after) (sym ended.on_root)
              ∙ mover_state world after to old new left.flying obeys moved;
          halted = refl;
          flying = moved.flying ∙ emptied world from to back.flight back.flying;
          none_out = refl;
          ends = ended.ends;
        };
        fuel = 0;
        fueled = λ paced. tt;
      };
      less = λ paced. let some = fueled paced in omega arith;
    })
token_returns split c world after sim from to idle none_halted is_chain back old obeys outcome label takes leaves
    (inr more) fueled =
    let view = sim.view in
    let stack = sim.stacks to old obeys in
    let new = with_running (record old { entries = on_stack to more.now }) (Some more.thread) in
    let passed = passing split old from (message.Lgoto back.token) outcome takes
    (ap top_token stack ∙ top_on_stack to view.chain back.token back.top back.host) in
    let done : without_message new ≡ outcome =
    sym (ap (λ list. without_message (after_pop split.code old list)) stack ∙ ap without_message more.is) ∙ passed in
    let rested = idle to old obeys tt in
    begins split c world after sim (returns from to) from to back.flight (starting view more.now more.call) idle
    none_halted (λ other apart. tt) back.flying old new more.thread obeys refl refl refl refl rested.1 refl more.others
    outcome label done leaves more.is_chain
    (λ moved. holds_calm split c view after more.now more.call
    (holds_same split c view world after to old new _ sim.holds obeys moved refl refl refl) back.none_out) tt more.at
    (λ paced. let some = fueled paced in let less = more.lighter paced in omega arith)

-- ---- events

-- the event takes the one message in flight
take_at : (split : Split) (world after : WorldShape) (from to from' to' : HostId) (place : ℕ) → from ≡ from' →
    to ≡ to' → place ≡ 0 → IsTakeStep split.code world from to place after →
    IsTakeStep split.code world from' to' 0 after
take_at split world after from to from' to' place from_is to_is place_is step =
    subst (λ f. IsTakeStep split.code world f to' 0 after) from_is
    (subst (λ t. IsTakeStep split.code world from t 0 after) to_is
    (subst (λ p. IsTakeStep split.code world from to p after) place_is step))

-- a host takes the one message in flight
record TakesOne (split : Split) (world after : WorldShape) (from to : HostId) (m : Message) : Type 0 where
  old : HostState
  obeys : state_at world to ≡ Some old
  outcome : Outcome
  label : ℕ
  takes : IsTaking split.code old from m outcome
  leaves : after_step (without_flight world from to 0) to outcome (Some label) ≡ after

takes_one : (split : Split) (world after : WorldShape) (from to from' to' : HostId) (place : ℕ) (flight : Flight) →
    world.flying ≡ only from' to' (flight ∷ []) → IsTakeStep split.code world from to place after →
    TakesOne split world after from' to' flight.message
takes_one split world after from to from' to' place flight flying step =
    let is = the_one world from to from' to' place step.flight flight flying step.there in
    let here = take_at split world after from to from' to' place is.from_is is.to_is is.place_is step in
    let same = (the_one world from' to' from' to' 0 here.flight flight flying here.there).flight_is in
    record {
      old = here.state;
      obeys = here.obeys;
      outcome = here.outcome;
      label = here.flight.label;
      takes = subst (λ (f : Flight). IsTaking split.code here.state from' f.message here.outcome) same here.takes;
      leaves = here.leaves;
    }

-- the request in flight is taken
pub asked_taken : (split : Split) (c : Configuration) (world after : WorldShape) (sim : Simulates split c world)
    (holder owner : HostId) → AreIdle (asked holder owner) world → NoneHalted world →
    IsChain split sim.view.naming sim.view.chain →
    (stands : IsAsked split c sim.view world holder owner) → (from to : HostId) (place : ℕ) →
    IsTakeStep split.code world from to place after → (Paced split →
    IsFueledRequest split sim.view.chain holder stands.waits.thread.thread.at sim.fuel stands.waits.flight.message) →
    Goes split c sim.fuel after
asked_taken split c world after sim holder owner idle none_halted is_chain stands from to place step fueled =
    let waits = stands.waits in
    let one = takes_one split world after from to holder owner place waits.flight waits.flying step in
    answers_any split c world after sim (asked holder owner) holder owner idle none_halted (λ other apart rests. rests)
    waits.other waits one.old one.label one.outcome one.obeys one.leaves
    (λ fuel. IsFueledRequest split sim.view.chain holder waits.thread.thread.at fuel waits.flight.message) fueled
    (typed.request_taken split c sim.view world holder owner waits.thread one.old
    (owner_of split c world sim is_chain owner one.old one.obeys) waits.flight.message stands.request one.outcome
    one.takes)

-- the result in flight is taken
pub giving_taken : (split : Split) (c : Configuration) (world after : WorldShape) (sim : Simulates split c world)
    (holder owner : HostId) → AreIdle (gives holder owner) world → NoneHalted world →
    IsChain split sim.view.naming sim.view.chain → (stands : IsGiving split c sim.view world holder owner) →
    (from to : HostId) (place : ℕ) → IsTakeStep split.code world from to place after → (Paced split →
    weight_at split sim.view.chain holder stands.waits.thread.thread.at + 2 ≤ sim.fuel + STEP) →
    Goes split c sim.fuel after
giving_taken split c world after sim holder owner idle none_halted is_chain stands from to place step fueled =
    let waits = stands.waits in
    let one = takes_one split world after from to holder owner place waits.flight waits.flying step in
    answers_any split c world after sim (gives holder owner) holder owner idle none_halted (λ other apart rests. rests)
    waits.other waits one.old one.label one.outcome one.obeys one.leaves
    (λ fuel. weight_at split sim.view.chain holder waits.thread.thread.at + 2 ≤ fuel + STEP) fueled
    (typed.result_taken split c sim.view world holder owner waits.thread one.old
    (owner_of split c world sim is_chain owner one.old one.obeys) stands.request stands.frame stands.x stands.value
    stands.awaited stands.request_is stands.may stands.result one.outcome
    (subst (λ m. IsTaking split.code one.old holder m one.outcome) stands.message one.takes))

-- the answer in flight is taken
pub answered_taken : (split : Split) (c : Configuration) (world after : WorldShape) (sim : Simulates split c world)
    (holder owner : HostId) → AreIdle (answered holder owner) world → NoneHalted world →
    IsChain split sim.view.naming sim.view.chain →
    (stands : IsAnswered split c sim.view world holder owner) → (from to : HostId) (place : ℕ) →
    IsTakeStep split.code world from to place after → (Paced split →
    weight_at split sim.view.chain holder stands.waits.thread.thread.at + 1 ≤ sim.fuel) → Goes split c sim.fuel after
answered_taken split c world after sim holder owner idle none_halted is_chain stands from to place step fueled =
    let waits = stands.waits in
    let one = takes_one split world after from to owner holder place waits.flight waits.flying step in
    let state = some_same (state_at world holder) one.old waits.state one.obeys waits.there in
    answer_taken split c world after sim holder owner idle none_halted is_chain waits waits.flight.message stands.answer
    one.outcome one.label
    (subst (λ (s : HostState). IsTaking split.code s owner waits.flight.message one.outcome) state one.takes) one.leaves
    fueled

-- the token is taken at an entry
pub going_taken : (split : Split) (c : Configuration) (world after : WorldShape) (sim : Simulates split c world)
    (sender target : HostId) → AreIdle (goes sender target) world → NoneHalted world →
    IsChain split sim.view.naming sim.view.chain →
    (stands : IsGoing split c sim.view world sender target) → (from to : HostId) (place : ℕ) →
    IsTakeStep split.code world from to place after → (Paced split →
    weight_at split sim.view.chain target stands.goes.there.at + 1 ≤ sim.fuel) → Goes split c sim.fuel after
going_taken split c world after sim sender target idle none_halted is_chain stands from to place step fueled =
    let one = takes_one split world after from to sender target place stands.flight stands.flying step in
    token_goes split c world after sim sender target idle none_halted is_chain stands one.old one.obeys one.outcome
    one.label one.takes one.leaves fueled

-- the token is taken by who gave it
pub returning_taken : (split : Split) (c : Configuration) (world after : WorldShape) (sim : Simulates split c world)
    (sender target : HostId) → AreIdle (returns sender target) world → NoneHalted world →
    IsChain split sim.view.naming sim.view.chain →
    IsReturning split c sim.view world sender target → (from to : HostId) (place : ℕ) →
    IsTakeStep split.code world from to place after → (Paced split →
    3 * (PACE + length sim.view.chain) ≤ sim.fuel + 1) → Goes split c sim.fuel after
returning_taken split c world after sim sender target idle none_halted is_chain stands from to place step fueled =
    let one = takes_one split world after from to sender target place stands.flight stands.flying step in
    token_returns split c world after sim sender target idle none_halted is_chain stands one.old one.obeys one.outcome
    one.label (subst (λ m. IsTaking split.code one.old sender m one.outcome) stands.message one.takes) one.leaves
    (popped split c sim.view sim.view.chain target one.old stands.token is_chain stands.count stands.left stands.top
    stands.host) fueled
