-- A turn of the holder: worlds that stand for a configuration again, put together from what the turn makes at its host.
use Rattle.std.proofs.Common.{◌≡◌, ◌≢◌, ◌∙◌, ℕ, ◌⊎◌, inl, inr, Bool, true, List, [], ◌∷◌, ◌++◌, Some}
use Rattle.std.proofs.Common.{None, refl, ap, sym, subst, arith, ◌<◌, ◌≤◌, ◌+◌, length}
use Rattle.std.specs.Prelude.{◌-◌, ◌*◌, IfSome, if◌then◌else◌}
use Rattle.js_base.specs.declared.ids.HostId.{HostId}
use Rattle.jif_tree.specs.SourceRun.{Configuration}
use Rattle.ics_stack.specs.declared.stack.StackEntry.{StackEntry}
use Rattle.ics_stack.specs.Stack.{top_token}
use Rattle.host_code.specs.declared.message.Message.{Message}
use Rattle.host_code.specs.declared.message.Message.TheVariants as message
use Rattle.host_code.specs.Thread.{ThreadShape, Awaited}
use Rattle.host_code.specs.Thread.Awaited.{acknowledgement}
use Rattle.host_core.specs.Host.{HostState, Outcome, with_message, without_message, after_asking, with_running}
use Rattle.host_core.specs.Host.{after_pop, with_one_ignored}
use Rattle.host_core.specs.Turn.{IsTurn, label_of_turn}
use Rattle.split_rules.specs.Pace.{PACE}
use Rattle.net_world.specs.Fits.{ShapeFits, IsStateOf}
use Rattle.net_world.specs.Flying.{Flight}
use Rattle.net_world.specs.World.{WorldShape, after_step, state_at}
use Rattle.net_world.proofs.Moved.{Moved, mover_state, moved_silent}
use Rattle.typed_steps.specs.Turns as turns
use Rattle.jif_tree.proofs.PlainRuns.{no_field}
use Rattle.typed_steps.specs.Values.{HoldsNumbers}
use Rattle.typed_steps.specs.Turns.{IsActing, Grows, stays, grows, Turned, waiting_for}
use Rattle.typed_steps.specs.Views.{Split, Link, View}
use Rattle.typed_steps.specs.Chains.{IsChain}
use Rattle.typed_steps.specs.Variables.{HostsHold}
use Rattle.typed_steps.specs.Weights.{Paced, STEP, weight_at}
use Rattle.typed_steps.specs.Requests.{starting}
use Rattle.typed_steps.proofs.HeldSteps.{holds_same, holds_calm}
use Rattle.typed_steps.proofs.HolderTurns.{turned}
use Rattle.simulation.proofs.Simulates.{on_stack, only, runs, asked, gives, goes, returns, halted, Holder, IsIdle}
use Rattle.simulation.proofs.Simulates.{IsRunning, IsWaiting, Stands, IsOrderly, AreStacks, AreIdle, GoesOn, Goes}
use Rattle.simulation.proofs.Simulates.{Falls, IsFueled, Simulates}
use Rattle.simulation.proofs.Moved.{moved_telling}
use Rattle.simulation.proofs.Kept.{orderly_moved, NoneHalted, none_halted_moved, stacks_moved, stacks_same, idle_moved}
use Rattle.simulation.proofs.Pops.{own_stack, other_stack, top_on_stack, Ended, Continued, popped}

-- A world before a turn of the host that holds the token, and what the turn leaves and sends.
pub record Turning (split : Split) (c : Configuration) (world after : WorldShape) (host : HostId) : Type 0 where
  pub view : View
  pub is_chain : IsChain split view.naming view.chain
  pub orderly : IsOrderly split world
  pub stacks : AreStacks view.chain world
  pub idle : AreIdle (runs host) world
  pub none_halted : NoneHalted world
  pub holds : HostsHold split c view world
  pub run : IsRunning split c view world host
  pub outcome : Outcome
  pub label : ℕ
  pub leaves : after_step world host outcome (Some label) ≡ after
  pub fuel : ℕ
  pub fueled : Paced split → weight_at split view.chain host run.thread.at ≤ fuel

-- where the stack of a host grows as the chain does, it is the host's part of the chain again
pub own_grown : (host : HostId) (chain now : List Link) (old new : List StackEntry) → Grows host chain now old new →
    old ≡ on_stack host chain → new ≡ on_stack host now
own_grown host chain now old new (stays chain_is is) before = is ∙ before ∙ ap (on_stack host) (sym chain_is)
own_grown host chain now old new (grows link on_host chain_is is) before =
    is ∙ ap (λ list. link.entry ∷ list) before ∙ sym (own_stack host link chain on_host)
    ∙ ap (on_stack host) (sym chain_is)

-- and those of others are what they were
pub others_grown : (host : HostId) (chain now : List Link) (old new : List StackEntry) → Grows host chain now old new →
    (other : HostId) → other.0 ≢ host.0 → on_stack other now ≡ on_stack other chain
others_grown host chain now old new (stays chain_is is) other apart = ap (on_stack other) chain_is
others_grown host chain now old new (grows link on_host chain_is is) other apart =
    ap (on_stack other) chain_is ∙ other_stack host other link chain on_host apart

-- the holder once its thread waits
abbrev pub asking : HostState → ℕ → ThreadShape → Awaited → HostId → HostState
asking old at thread awaited to = after_asking (with_running old None) at thread awaited to

-- one thread waits, and its message is in flight
abbrev pub waits_there : (split : Split) (c : Configuration) (world after : WorldShape) (host : HostId)
    (t : Turning split c world after host) (thread : ThreadShape) (awaited : Awaited) (to : HostId) (flight : Flight) →
    to.0 ≢ host.0 →
    Moved world host (asking t.run.state t.run.thread.at thread awaited to) (only host to (flight ∷ [])) after →
    IsWaiting split t.view after host to host to
waits_there split c world after host t thread awaited to flight apart moved = record {
  state = asking t.run.state t.run.thread.at thread awaited to;
  there = mover_state world after host t.run.state (asking t.run.state t.run.thread.at thread awaited to)
      (only host to (flight ∷ [])) t.run.there moved;
  thread = waiting_for t.run.state t.run.thread.at thread awaited to;
  flight = flight;
  running = refl;
  waiting = ap (λ list. list ++ waiting_for t.run.state t.run.thread.at thread awaited to ∷ []) t.run.waiting;
  asked = refl;
  other = apart;
  sent = t.run.sent;
  flying = moved.flying;
}

module _ (split : Split) (c : Configuration) (world after : WorldShape) (host : HostId)
    (t : Turning split c world after host) where
  -- ---- the thread goes on

  goes_on : (now : Configuration) (more most : ℕ) → t.fuel + more ≤ most →
      turns.RunsOn split t.view world host t.run.state t.run.thread now more t.outcome → Falls split now most after
  goes_on now more most enough g =
      let old = t.run.state in
      let new = with_running g.state (Some g.next) in
      let moved = moved_silent world host t.outcome new (Some t.label) after g.is t.leaves in
      record {
        now = record {
          view = g.seen;
          holder = runs host;
          orderly = orderly_moved split world after host old new world.flying t.orderly t.run.there moved
              g.steady.me g.steady.ignored;
          stacks = stacks_moved t.view.chain g.seen.chain world after host old new world.flying t.stacks t.run.there
              moved (own_grown host t.view.chain g.seen.chain old.entries g.state.entries g.grown
              (t.stacks host old t.run.there))
              (others_grown host t.view.chain g.seen.chain old.entries g.state.entries g.grown);
          idle = idle_moved (runs host) (runs host) world after host old new world.flying t.idle t.run.there moved
              (λ other apart rests. rests) (λ rests. absurd (rests refl));
          goes_on = none_halted_moved world after host old new world.flying t.none_halted t.run.there moved
              (g.steady.halted ∙ t.none_halted host old t.run.there);
          holds = g.keeps after moved.hosts;
          stands = (
            g.is_chain,
            record {
              state = new;
              there = mover_state world after host old new world.flying t.run.there moved;
              thread = g.next;
              running = refl;
              waiting = g.steady.waiting ∙ t.run.waiting;
              sent = g.sent;
              flying = moved.flying ∙ t.run.flying;
              at = g.at;
            },
          );
          fuel = weight_at split g.seen.chain host g.next.at;
          fueled = λ paced. omega arith;
        };
        less = λ paced. let less = g.pace paced in let before = t.fueled paced in omega arith;
      }

  -- ---- the thread waits

  asks : (thread : ThreadShape) (awaited : Awaited) (to : HostId) (m : Message) (holder : Holder) →
      ((other : HostId) → other.0 ≢ host.0 → IsIdle holder other → other.0 ≢ host.0) → (IsIdle holder host → ⊥) →
      (NoneHalted after → GoesOn holder after) →
      let new = asking t.run.state t.run.thread.at thread awaited to in
      let flying = only host to (record { message = m; label = t.label } ∷ []) in
      with_message new to m ≡ t.outcome → (fuel : ℕ) → (Paced split → fuel < t.fuel) →
      (stands : Moved world host new flying after → Stands split c t.view after holder) →
      ((moved : Moved world host new flying after) → Paced split →
      IsFueled split c t.view after holder (stands moved) fuel) → Goes split c t.fuel after
  asks thread awaited to m holder idles rests going is fuel less stands fueled =
      let old = t.run.state in
      let new = asking old t.run.thread.at thread awaited to in
      let flying = only host to (record { message = m; label = t.label } ∷ []) in
      let moved = moved_telling world host t.outcome old new to m t.label after t.run.there t.orderly.none_bad
      t.run.flying is t.leaves in
      inl (record {
        now = record {
          view = t.view;
          holder = holder;
          orderly = orderly_moved split world after host old new flying t.orderly t.run.there moved refl refl;
          stacks = stacks_same t.view.chain world after host old new flying t.stacks t.run.there moved refl;
          idle = idle_moved (runs host) holder world after host old new flying t.idle t.run.there moved idles
              (λ resting. absurd (rests resting));
          goes_on = going (none_halted_moved world after host old new flying t.none_halted t.run.there moved
              (t.none_halted host old t.run.there));
          holds = holds_same split c t.view world after host old new flying t.holds t.run.there moved refl refl refl;
          stands = stands moved;
          fuel = fuel;
          fueled = λ paced. fueled moved paced;
        };
        less = less;
      })

  -- ---- the thread ends

  -- and the token goes to another host
  passes_on : (to : HostId) (m : Message) (holder : Holder) →
      with_message (with_running t.run.state None) to m ≡ t.outcome →
      ((other : HostId) → other.0 ≢ host.0 → IsIdle holder other → other.0 ≢ host.0) →
      (NoneHalted after → GoesOn holder after) → (fuel : ℕ) → (Paced split → fuel < t.fuel) →
      (stands : after.flying ≡ only host to (record { message = m; label = t.label } ∷ []) →
      Stands split c t.view after holder) →
      ((flying : after.flying ≡ only host to (record { message = m; label = t.label } ∷ [])) → Paced split →
      IsFueled split c t.view after holder (stands flying) fuel) →
      Goes split c t.fuel after
  passes_on to m holder is apart halts fuel less stands fueled =
      let old = t.run.state in
      let new = with_running old None in
      let flying = only host to (record { message = m; label = t.label } ∷ []) in
      let moved = moved_telling world host t.outcome old new to m t.label after t.run.there t.orderly.none_bad
      t.run.flying is t.leaves in
      inl (record {
        now = record {
          view = t.view;
          holder = holder;
          orderly = orderly_moved split world after host old new flying t.orderly t.run.there moved refl refl;
          stacks = stacks_same t.view.chain world after host old new flying t.stacks t.run.there moved refl;
          idle = idle_moved (runs host) holder world after host old new flying t.idle t.run.there moved apart
              (λ rests. (refl, t.run.waiting));
          goes_on = halts (none_halted_moved world after host old new flying t.none_halted t.run.there moved
              (t.none_halted host old t.run.there));
          holds = holds_same split c t.view world after host old new flying t.holds t.run.there moved refl refl refl;
          stands = stands moved.flying;
          fuel = fuel;
          fueled = λ paced. fueled moved.flying paced;
        };
        less = less;
      })

  -- and the token is that of this host's top entry
  returns_own : t.view.out ≡ [] →
      without_message (after_pop split.code (with_running t.run.state None) (on_stack host t.view.chain)) ≡ t.outcome →
      (Ended split c t.view.chain host (with_running t.run.state None)
      ⊎ Continued split c t.view t.view.chain host (with_running t.run.state None)) →
      (Paced split → 3 * (PACE + length t.view.chain) ≤ t.fuel) → Goes split c t.fuel after
  returns_own none is (inl ended) most =
      let old = t.run.state in
      let new : HostState = record old { entries = []; running = None; halted = true } in
      let moved = moved_silent world host t.outcome new (Some t.label) after
      (sym (ap without_message ended.is) ∙ is) t.leaves in
      inl (record {
        now = record {
          view = starting t.view [] t.view.sender;
          holder = halted;
          orderly = orderly_moved split world after host old new world.flying t.orderly t.run.there moved refl refl;
          stacks = stacks_moved t.view.chain [] world after host old new world.flying t.stacks t.run.there moved refl
              ended.others;
          idle = idle_moved (runs host) halted world after host old new world.flying t.idle t.run.there moved
              (λ other apart rests. apart) (λ rests. (refl, t.run.waiting));
          goes_on = tt;
          holds = holds_calm split c t.view after [] t.view.sender
              (holds_same split c t.view world after host old new world.flying t.holds t.run.there moved refl refl refl)
              none;
          stands = record {
            state = new;
            there = ap (state_at after) (sym ended.on_root)
                ∙ mover_state world after host old new world.flying t.run.there moved;
            halted = refl;
            flying = moved.flying ∙ t.run.flying;
            none_out = refl;
            ends = ended.ends;
          };
          fuel = 0;
          fueled = λ paced. tt;
        };
        less = λ paced. let some = most paced in omega arith;
      })
  returns_own none is (inr more) most =
      let old = t.run.state in
      let state : HostState = record old { running = None; entries = on_stack host more.now } in
      let new = with_running state (Some more.thread) in
      let moved = moved_silent world host t.outcome new (Some t.label) after
      (sym (ap without_message more.is) ∙ is) t.leaves in
      inl (record {
        now = record {
          view = starting t.view more.now more.call;
          holder = runs host;
          orderly = orderly_moved split world after host old new world.flying t.orderly t.run.there moved refl refl;
          stacks = stacks_moved t.view.chain more.now world after host old new world.flying t.stacks t.run.there moved
              refl more.others;
          idle = idle_moved (runs host) (runs host) world after host old new world.flying t.idle t.run.there moved
              (λ other apart rests. rests) (λ rests. absurd (rests refl));
          goes_on = none_halted_moved world after host old new world.flying t.none_halted t.run.there moved
              (t.none_halted host old t.run.there);
          holds = holds_calm split c t.view after more.now more.call
              (holds_same split c t.view world after host old new world.flying t.holds t.run.there moved refl refl refl)
              none;
          stands = (
            more.is_chain,
            record {
              state = new;
              there = mover_state world after host old new world.flying t.run.there moved;
              thread = more.thread;
              running = refl;
              waiting = t.run.waiting;
              sent = tt;
              flying = moved.flying ∙ t.run.flying;
              at = more.at;
            },
          );
          fuel = weight_at split more.now host more.thread.at;
          fueled = λ paced. omega arith;
        };
        less = λ paced. let less = more.lighter paced in let some = most paced in omega arith;
      })

  -- ---- whatever the turn makes

  goes_of : Turned split c t.view world host t.run.state t.run.thread t.outcome → Goes split c t.fuel after
  goes_of (turns.runs_on g) = inl (goes_on c 0 t.fuel (omega arith) g)
  goes_of (turns.steps now does g) = inr (now, does, goes_on now STEP (t.fuel + STEP) (omega arith) g)
  goes_of (turns.asks a) =
      asks a.next a.awaited a.to a.asking (asked host a.to) (λ other differs rests. rests) (λ rests. rests refl)
      (λ none. none) a.is (weight_at split t.view.chain host t.run.thread.at - 1)
      (λ paced. let some = (a.pace paced).0 in let before = t.fueled paced in omega arith)
      (λ moved. (
        t.is_chain,
        record {
          waits = waits_there split c world after host t a.next a.awaited a.to _ a.away moved;
          request = a.request;
        },
      ))
      (λ moved paced. (a.pace paced).1)
  goes_of (turns.gives g) =
      asks g.next acknowledgement g.to (message.Forward _ g.frame g.x g.value) (gives host g.to)
      (λ other differs rests. rests) (λ rests. rests refl) (λ none. none) g.is
      (weight_at split t.view.chain host t.run.thread.at - 1)
      (λ paced. let some = (g.pace paced).0 in let before = t.fueled paced in omega arith)
      (λ moved. (
        t.is_chain,
        record {
          waits = waits_there split c world after host t g.next acknowledgement g.to _ g.away moved;
          request = _;
          frame = g.frame;
          x = g.x;
          value = g.value;
          message = refl;
          awaited = refl;
          request_is = refl;
          may = g.may;
          result = g.result;
        },
      ))
      (λ moved paced. (g.pace paced).1)
  goes_of (turns.hands h) =
      passes_on h.to h.said (goes host h.to) h.is
      (λ other apart rests. apart) (λ none. none) (weight_at split t.view.chain host t.run.thread.at - 1)
      (λ paced. let some = (h.pace paced).0 in let before = t.fueled paced in omega arith)
      (λ flying. (
        t.is_chain,
        record {
          flight = record { message = h.said; label = t.label };
          arrival = h.arrival;
          flying = flying;
          arrives = h.arrives;
          goes = h.goes;
        },
      ))
      (λ flying paced. (h.pace paced).1)
  goes_of (turns.returns r) =
      passes_on r.token.host (message.Lgoto r.token) (returns host r.token.host) r.is
      (λ other apart rests. apart) (λ none. none) (weight_at split t.view.chain host t.run.thread.at - 1)
      (λ paced. let some = (r.pace paced).0 in let before = t.fueled paced in omega arith)
      (λ flying. (
        t.is_chain,
        record {
          flight = record { message = message.Lgoto r.token; label = t.label };
          token = r.token;
          flying = flying;
          message = refl;
          host = refl;
          top = r.top;
          none_out = r.gives_up.none_out;
          count = r.gives_up.count;
          left = r.gives_up.left;
        },
      ))
      (λ flying paced. (r.pace paced).1)
  goes_of (turns.ends e) =
      let old = t.run.state in
      let bare = with_running old None in
      let stack = t.stacks host old t.run.there in
      let popped_by = λ (b : Bool). without_message
      (if b then after_pop split.code bare old.entries else with_one_ignored bare) in
      let passed : e.passes ≡ true =
      e.passing.1 (ap top_token stack ∙ top_on_stack host t.view.chain e.token e.top e.own) in
      returns_own e.gives_up.none_out
      (ap (λ list. without_message (after_pop split.code bare list)) (sym stack) ∙ ap popped_by (sym passed) ∙ e.is)
      (popped split c t.view t.view.chain host bare e.token t.is_chain e.gives_up.count e.gives_up.left e.top e.own)
      (λ paced. let most = e.pace paced in let before = t.fueled paced in omega arith)

-- where nothing is affected nothing is asked of what a host has
pub no_numbers : (split : Split) → split.exposure.bad ≡ [] → (state : HostState) → HoldsNumbers split.exposure state
no_numbers split none state = record {
  elements = λ field place far. absurd (no_field split.exposure none field far);
  variables = λ frame x far.
      absurd (no_field (record split.exposure { fields = split.exposure.variables }) none (record { 0 = x.0 }) far);
}

-- the host that holds the token makes a turn
pub holder_turn : (split : Split) (c : Configuration) (world after : WorldShape) (host : HostId) →
    ShapeFits split.code world → (sim : Simulates split c world) → (run : IsRunning split c sim.view world host) →
    IsChain split sim.view.naming sim.view.chain → NoneHalted world → AreIdle (runs host) world →
    (Paced split → weight_at split sim.view.chain host run.thread.at ≤ sim.fuel) → (outcome : Outcome) →
    IsTurn split.code run.state outcome →
    after_step world host outcome (label_of_turn split.code run.state) ≡ after → Goes split c sim.fuel after
holder_turn split c world after host fits sim run is_chain none_halted idle fueled outcome turns leaves =
    let acts : IsActing split c sim.view world host run.state run.thread = record {
      there = run.there;
      many = sim.orderly.count;
      fits = subst (λ o. IfSome o (IsStateOf split.code host)) run.there (fits.states host);
      numbers = no_numbers split sim.orderly.unaffected run.state;
      running = run.running;
      is_chain = is_chain;
      at = run.at;
      sent = run.sent;
      holds = sim.holds;
    } in
    let turn = turned split c sim.view world host run.state run.thread acts outcome turns in
    goes_of split c world after host (record {
      view = sim.view;
      is_chain = is_chain;
      orderly = sim.orderly;
      stacks = sim.stacks;
      idle = idle;
      none_halted = none_halted;
      holds = sim.holds;
      run = run;
      outcome = outcome;
      label = turn.0;
      leaves = ap (after_step world host outcome) (sym turn.1) ∙ leaves;
      fuel = sim.fuel;
      fueled = fueled;
    }) turn.2
