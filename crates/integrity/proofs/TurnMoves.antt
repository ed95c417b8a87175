-- A turn of the holder's thread that tells misbehaving hosts nothing: the world stands for the same configuration
-- again, or for one that a step leads to.
use Rattle.std.proofs.Common.{◌≡◌, ◌≢◌, ◌∙◌, ◌⊎◌, inl, inr, ℕ, Bool, true, false, List, [], ◌∷◌, ◌++◌}
use Rattle.std.proofs.Common.{Some, None, refl, sym, ap, subst}
use Rattle.std.specs.Prelude.{if◌then◌else◌, slice_get, slice_set, All, IfSome, IsSomeAnd}
use Rattle.std.proofs.lemmas.List.Elements.{All-push}
use Rattle.std.proofs.lemmas.Bool.{eq-eqb}
use Rattle.js_base.specs.declared.ids.HostId.{HostId}
use Rattle.jif_tree.specs.SourceRun.{Configuration}
use Rattle.ics_stack.specs.declared.stack.StackEntry.{StackEntry}
use Rattle.ics_stack.specs.Stack.{top_token}
use Rattle.host_code.specs.declared.message.Message.{Message}
use Rattle.host_code.specs.declared.message.Message.TheVariants as message
use Rattle.host_code.specs.Thread.{ThreadShape, WaitingShape, Awaited}
use Rattle.host_code.specs.Thread.Awaited.{acknowledgement}
use Rattle.host_core.specs.Host.{HostState, Outcome, with_message, without_message, with_running, after_asking}
use Rattle.host_core.specs.Host.{with_one_ignored, after_pop, next_request}
use Rattle.host_core.specs.Turn.{label_of_turn}
use Rattle.net_world.specs.Fits.{ShapeFits}
use Rattle.net_world.specs.Flying.{Flight, Flying, with_flights}
use Rattle.net_world.specs.Told.{token_in}
use Rattle.net_world.specs.World.{WorldShape, IsTurnStep, state_at, misbehaves, has_halted}
use Rattle.net_world.proofs.Moved.{Moved, either, mover_state, moved_silent, moved_told, moved_posted}
use Rattle.capability.specs.declared.token.Token.{Token}
use Rattle.token_laws.specs.Holders.{TokenPlace, HoldsAt, running_on, waiting_on, kept_on, in_flight}
use Rattle.token_laws.specs.Requests.{number_asked}
use Rattle.token_laws.proofs.EachFlight.{of_state}
use Rattle.token_laws.proofs.WorldTokens.{Accounts}
use Rattle.typed_steps.specs.Weights.{STEP}
use Rattle.jif_tree.specs.Store.{element_at, row_of}
use Rattle.js_base.specs.declared.ids.RequestId.{RequestId}
use Rattle.split_rules.specs.Handing.{Arrival, arrival_in}
use Rattle.typed_steps.specs.Requests.{IsRequest, GoesTo, GivesUp}
use Rattle.typed_steps.specs.Turns as turns
use Rattle.typed_steps.specs.Turns.{IsActing, Grows, stays, grows, waiting_for}
use Rattle.typed_steps.specs.Variables.{HasWhatIsOwed}
use Rattle.typed_steps.specs.Views.{Split, View, entries_of}
use Rattle.typed_steps.proofs.HeldSteps.{holds_same}
use Rattle.integrity.proofs.Entering.{arrival_token}
use Rattle.integrity.specs.Holding.{IsAmong, Holder, runs, asked, passes, lost, halted, first_of}
use Rattle.integrity.specs.Holding.{IsThere, HasTop, MessageFlies, OwnsWaiting, OwnsMessage, StateIsOutside, IsStanding}
use Rattle.integrity.specs.Holding.{IsTight}
use Rattle.integrity.specs.Outside.{ThreadIsOpen, EntryIsOpen, MessageIsOpen}
use Rattle.integrity.specs.Standing as standing
use Rattle.integrity.specs.Standing.{threat_in, IsResultGiven, IsPassing, StandsBy, Goes}
use Rattle.integrity.proofs.Among.{each_among, one_of_some, some_of, last_at}
use Rattle.integrity.proofs.ChainMoves.{linked_of, grown_keeps, grown_entries, grown_stands, grown_known}
use Rattle.integrity.proofs.FliesOn.{FlyAs, all_posted}
use Rattle.integrity.proofs.HolderStays.{on_some}
use Rattle.integrity.proofs.OpenWorlds.{state_fits}
use Rattle.integrity.proofs.OutsideEvents.{other_of}
use Rattle.integrity.proofs.StackMoves.{Restacks, RunsWith, turn_restacks}
use Rattle.integrity.proofs.StandsOn.{halted_before}
use Rattle.integrity.proofs.TightKept.{IsLawful}
use Rattle.integrity.proofs.LooseChains.{unsent_below}
use Rattle.integrity.proofs.PopMoves.{Popping, was_at, pops_held, loses}
use Rattle.integrity.proofs.TightMoves.{tight_moved, all_as, waits_apart}

-- what is known before the turn, and after it
pub record Turning (split : Split) (c : Configuration) (view : View) (host : HostId) (thread : ThreadShape)
    (world after : WorldShape) : Type 0 where
  pub stands : StandsBy split c view (runs host thread) world
  pub lawful : IsLawful (threat_in split) world
  pub fits : ShapeFits split.code after
  pub account : Accounts world after
  pub step : IsTurnStep split.code world host after
  pub quiet : after.sent ≡ world.sent
  pub running : step.state.running ≡ Some thread
  pub sends : HasWhatIsOwed split view step.state host
  pub label : ℕ
  pub labels : label_of_turn split.code step.state ≡ Some label

-- a request has the number that its thread waits for
pub request_number : (split : Split) (c : Configuration) (view : View) (holder owner : HostId) (waiting : WaitingShape)
    (m : Message) → IsRequest split c view holder owner waiting m → number_asked m ≡ Some waiting.request
request_number split c view holder owner waiting (message.Get request field place) is =
    ap (λ (r : RequestId). Some r) (sym is.1)
request_number split c view holder owner waiting (message.Set request field place value) is =
    ap (λ (r : RequestId). Some r) (sym is.1)
request_number split c view holder owner waiting (message.Forward request frame x value) is =
    ap (λ (r : RequestId). Some r) (sym is.1)
request_number split c view holder owner waiting (message.Sync request frame entry token) is =
    ap (λ (r : RequestId). Some r) (sym is.1)
request_number split c view holder owner waiting _ is = absurd is

-- the token of the chain's first entry is with the thread that waits, or in its request
pub request_top : (split : Split) (c : Configuration) (view : View) (holder owner : HostId) (waiting : WaitingShape)
    (m : Message) → IsRequest split c view holder owner waiting m →
    first_of (token_in m) waiting.thread.held ≡ top_token (entries_of view.chain)
request_top split c view holder owner waiting (message.Get request field place) is =
    (is.4 (element_at (row_of c.store field.0) place) (inl refl)).held
request_top split c view holder owner waiting (message.Set request field place value) is = is.4.at.held
request_top split c view holder owner waiting (message.Forward request frame x value) is = is.8.held
request_top split c view holder owner waiting (message.Sync request frame entry token) is = sym is.4
request_top split c view holder owner waiting _ is = absurd is

-- a message that hands a thread over passes the token on
passing_by : (split : Split) (c : Configuration) (view : View) (from to : HostId) (said : Message) (arrival : Arrival) →
    arrival_in said ≡ Some arrival → GoesTo split c view from to arrival → IsPassing split c view from to said
passing_by split c view from to (message.Rgoto frame entry token) arrival is goes =
    let own : Arrival = record { frame = frame; entry = entry; token = token; riders = [] } in
    let same : own ≡ arrival = cc in
    subst (GoesTo split c view from to) (sym same) goes
passing_by split c view from to (message.RgotoWith frame entry token riders) arrival is goes =
    let own : Arrival = record { frame = frame; entry = entry; token = token; riders = riders } in
    let same : own ≡ arrival = cc in
    subst (GoesTo split c view from to) (sym same) goes
passing_by split c view from to _ arrival is goes = absurd (cc)

-- what is in flight from a host to a host after more is
pub own_cell : (flying : Flying) (from to : HostId) (flights : List Flight) →
    with_flights flying from to flights from to ≡ flights
own_cell flying from to flights = rw (eq-eqb from.0 from.0 refl, eq-eqb to.0 to.0 refl) refl

pub never_more : {X : Type 0} (xs : List X) (x : X) → xs ++ x ∷ [] ≡ xs → ⊥
never_more [] x same = absurd (cc)
never_more (y ∷ xs) x same = never_more xs x (let rest : xs ++ x ∷ [] ≡ xs = cc in rest)

module _ (split : Split) (c : Configuration) (view : View) (host : HostId) (thread : ThreadShape)
    (world after : WorldShape) (t : Turning split c view host thread world after) where
  was : StateIsOutside (threat_in split) (entries_of view.chain) (runs host thread) t.step.state
  was = of_state (StateIsOutside (threat_in split) (entries_of view.chain) (runs host thread)) world host t.step.state
      t.stands.tight.outside.states t.step.obeys

  me_is : t.step.state.me ≡ host
  me_is = (state_fits (threat_in split) world host t.step.state t.lawful.fits t.step.obeys).me

  standing_each : (e : StackEntry) → IsAmong (entries_of view.chain) e → IsStanding world e
  standing_each e = each_among (IsStanding world) (entries_of view.chain) e t.stands.tight.standing

  -- all that waits there is open
  waits_open : All (λ w. ThreadIsOpen (threat_in split) host w.thread) t.step.state.waiting
  waits_open =
      waits_apart (threat_in split) (entries_of view.chain) host thread t.step.state me_is was

  waits_for : (next : Holder) (me : HostId) (waiting : List WaitingShape) → me ≡ host →
      waiting ≡ t.step.state.waiting →
      All (λ w. OwnsWaiting next me w ⊎ ThreadIsOpen (threat_in split) me w.thread) waiting
  waits_for next me waiting same is =
      subst (All (λ w. OwnsWaiting next me w ⊎ ThreadIsOpen (threat_in split) me w.thread)) (sym is)
      (all_as (λ w. ThreadIsOpen (threat_in split) host w.thread)
      (λ w. OwnsWaiting next me w ⊎ ThreadIsOpen (threat_in split) me w.thread) t.step.state.waiting
      (λ w may. inr (subst (λ h. ThreadIsOpen (threat_in split) h w.thread) (sym same) may)) waits_open)

  -- no host has halted
  none_halted : (next : Holder) (new : HostState) → after.hosts ≡ slice_set world.hosts host.0 (Some new) →
      new.halted ≡ t.step.state.halted → has_halted split.code.root after → next ≡ halted
  none_halted next new puts same has =
      let never : runs host thread ≡ halted =
      t.stands.halts
      (halted_before world after split.code.root host t.step.state new t.step.obeys puts same has) in
      absurd (cc)

  all_flying : (next : Holder) → FlyAs (λ from to m. OwnsMessage next from to m ⊎ MessageIsOpen (threat_in split) m)
      world.flying
  all_flying next from to =
      all_as (λ flight. OwnsMessage (runs host thread) from to flight.message
      ⊎ MessageIsOpen (threat_in split) flight.message)
      (λ flight. OwnsMessage next from to flight.message ⊎ MessageIsOpen (threat_in split) flight.message)
      (world.flying from to) (λ flight either. inr (other_of either (λ never. never)))
      (t.stands.tight.outside.flying from to)

  restacked : (old new : HostState) → Restacks (RunsWith old.running) old t.step.outcome.state →
      without_message new ≡ t.step.outcome → Restacks (RunsWith old.running) old new
  restacked old new moves is =
      subst (Restacks (RunsWith old.running) old) (ap (λ (o : Outcome). o.state) (sym is)) moves

  -- ---- the thread goes on

  goes_on : (now : Configuration) (more : ℕ) →
      turns.RunsOn split view world host t.step.state thread now more t.step.outcome →
      (seen : View) × (next : Holder) × standing.IsFree next × StandsBy split now seen next after
  goes_on now more g =
      let old = t.step.state in
      let new : HostState = with_running g.state (Some g.next) in
      let next = runs host g.next in
      let moved =
      moved_silent world host t.step.outcome new (label_of_turn split.code old) after g.is t.step.leaves in
      let there : state_at after host ≡ Some new =
      mover_state world after host old new world.flying t.step.obeys moved in
      let me : new.me ≡ host = g.steady.me ∙ me_is in (
        g.seen,
        next,
        tt,
        record {
          tight = tight_moved (threat_in split) (entries_of view.chain) (entries_of g.seen.chain)
              (runs host thread) next
              world after t.lawful t.fits t.account t.stands.tight (record {
                me = host;
                old = old;
                new = new;
                obeys = t.step.obeys;
                puts = moved.hosts;
                linked = linked_of split g.seen.naming g.seen.chain g.is_chain;
                stands = grown_stands world after host old new t.step.obeys moved.hosts view.chain g.seen.chain g.grown
                    (λ e among. (standing_each e among).there);
                known = grown_known split view.naming g.seen.naming world after host old new (RunsWith old.running)
                    t.lawful.held t.fits t.step.obeys there
                    (restacked old new
                    (turn_restacks split.code old t.step.outcome t.step.turns) g.is) t.quiet view.chain
                    g.seen.chain t.stands.does.0 g.is_chain g.grown standing_each;
                there = some_of (state_at after host) (λ s. s.running ≡ Some g.next) new there refl;
                has_top = g.at.held;
                held = λ same. absurd (cc);
                state = record {
                  running = inl me;
                  waiting = waits_for next new.me new.waiting me g.steady.waiting;
                  entries = grown_entries (threat_in split) host view.chain g.seen.chain old.entries new.entries g.grown
                      was.entries;
                };
                runs_as = λ other apart own. absurd (apart own);
                waits_as = λ other one apart own. absurd own;
                keeps_as = λ e apart among.
                    grown_keeps host view.chain g.seen.chain old.entries new.entries g.grown e among;
                flying = subst (FlyAs (λ from to m. OwnsMessage next from to m ⊎ MessageIsOpen (threat_in split) m))
                    (sym moved.flying) (all_flying next);
              });
          holds = g.keeps after moved.hosts;
          sends = some_of (state_at after host) (λ state. HasWhatIsOwed split g.seen state host) new there g.sent;
          does = (g.is_chain, g.at);
          halts = none_halted next new moved.hosts g.steady.halted;
        },
      )

  -- ---- a message is in flight

  -- and the chain is the same, and nothing runs on the host any more
  posts : (new : HostState) (next : Holder) (to : HostId) (m : Message) →
      Moved world host new
      (with_flights world.flying host to (world.flying host to ++ record { message = m; label = t.label } ∷ [])) after →
      new.me ≡ t.step.state.me → new.entries ≡ t.step.state.entries → new.running ≡ None →
      All (λ w. OwnsWaiting next host w ⊎ ThreadIsOpen (threat_in split) host w.thread) new.waiting →
      IsThere after next → HasTop after (entries_of view.chain) next → (next ≡ lost → ⊥) → OwnsMessage next host to m →
      IsTight (threat_in split) (entries_of view.chain) next after
  posts new next to m moved me entries rests waiting there top held own =
      let me_now : new.me ≡ host = me ∙ me_is in
      tight_moved (threat_in split) (entries_of view.chain) (entries_of view.chain) (runs host thread) next world after
      t.lawful t.fits t.account t.stands.tight (record {
        me = host;
        old = t.step.state;
        new = new;
        obeys = t.step.obeys;
        puts = moved.hosts;
        linked = t.stands.tight.linked;
        stands = λ e among.
            on_some world after host e.token.host t.step.state new t.step.obeys moved.hosts
            (λ state. IsAmong state.entries e) (standing_each e among).there
            (λ here has. subst (λ list. IsAmong list e) (sym entries) has);
        known = λ e among. inl (standing_each e among);
        there = there;
        has_top = top;
        held = λ is_lost. absurd (held is_lost);
        state = record {
          running = inr (subst (λ o. IfSome o (ThreadIsOpen (threat_in split) new.me)) (sym rests) tt);
          waiting = subst (λ h. All (λ w. OwnsWaiting next h w ⊎ ThreadIsOpen (threat_in split) h w.thread) new.waiting)
              (sym me_now) waiting;
          entries = subst (All (λ e. IsAmong (entries_of view.chain) e ⊎ EntryIsOpen (threat_in split) e.entry))
              (sym entries) was.entries;
        };
        runs_as = λ other apart its. absurd (apart its);
        waits_as = λ other one apart its. absurd its;
        keeps_as = λ e apart among. among;
        flying = subst (FlyAs (λ from target said. OwnsMessage next from target said
            ⊎ MessageIsOpen (threat_in split) said)) (sym moved.flying)
            (all_posted (λ from target said. OwnsMessage next from target said ⊎ MessageIsOpen (threat_in split) said)
            world host (record { to = to; message = m; label = t.label }) (all_flying next) (inl own));
      })

  own_flight : (to : HostId) (m : Message) (new : HostState) →
      Moved world host new
      (with_flights world.flying host to (world.flying host to ++ record { message = m; label = t.label } ∷ [])) after →
      MessageFlies after host to m
  own_flight to m new moved =
      let flight : Flight = record { message = m; label = t.label } in
      record {
        flight = flight;
        among = subst (λ list. IsAmong list flight)
            (sym (ap (λ (f : Flying). f host to) moved.flying
            ∙ own_cell world.flying host to (world.flying host to ++ flight ∷ [])))
            (last_at (world.flying host to) flight);
        is = refl;
      }

  -- what is sent goes to a host that obeys
  posted_if : (new : HostState) (to : HostId) (m : Message) → with_message new to m ≡ t.step.outcome → (bad : Bool) →
      misbehaves world to ≡ bad →
      Moved world host new
      (with_flights world.flying host to (world.flying host to ++ record { message = m; label = t.label } ∷ [])) after
  posted_if new to m is true bad =
      let told =
      moved_told world host t.step.outcome t.step.state new to m (label_of_turn split.code t.step.state) t.label after
      t.step.obeys bad t.labels is t.step.leaves in
      absurd (never_more world.sent (host, to, m) (sym told.sent ∙ t.quiet))
  posted_if new to m is false good =
      (moved_posted world host t.step.outcome t.step.state new to m (label_of_turn split.code t.step.state) t.label
      after t.step.obeys good t.labels is t.step.leaves).moved

  posted : (new : HostState) (to : HostId) (m : Message) → with_message new to m ≡ t.step.outcome →
      Moved world host new
      (with_flights world.flying host to (world.flying host to ++ record { message = m; label = t.label } ∷ [])) after
  posted new to m is = posted_if new to m is (misbehaves world to) refl

  -- ---- the thread waits

  asks : (next : ThreadShape) (awaited : Awaited) (to : HostId) (m : Message) →
      let w = waiting_for t.step.state thread.at next awaited to in
      with_message (after_asking (with_running t.step.state None) thread.at next awaited to) to m ≡ t.step.outcome →
      number_asked m ≡ Some w.request → first_of (token_in m) next.held ≡ top_token (entries_of view.chain) →
      IsRequest split c view host to w m ⊎ IsResultGiven split c view host w m →
      StandsBy split c view (asked host w m) after
  asks next awaited to m is number top request =
      let old = t.step.state in
      let new : HostState = after_asking (with_running old None) thread.at next awaited to in
      let w = waiting_for old thread.at next awaited to in
      let holder = asked host w m in
      let Waits : WaitingShape → Type 0 =
      λ one. OwnsWaiting holder host one ⊎ ThreadIsOpen (threat_in split) host one.thread in
      let moved = posted new to m is in
      let there : state_at after host ≡ Some new =
      mover_state world after host old new
      (with_flights world.flying host to (world.flying host to ++ record { message = m; label = t.label } ∷ []))
      t.step.obeys moved in
      record {
        tight = posts new holder to m moved refl refl refl
            (All-push Waits old.waiting w (waits_for holder host old.waiting refl refl) (inl (refl, refl))) (
              some_of (state_at after host) (λ s. IsAmong s.waiting w) new there (last_at old.waiting w),
              own_flight to m new moved,
              number,
            ) top (λ same. absurd (cc)) (refl, refl, number);
        holds = holds_same split c view world after host old new _ t.stands.holds t.step.obeys moved refl refl refl;
        sends = some_of (state_at after host) (λ state. HasWhatIsOwed split view state host) new there t.sends;
        does = (t.stands.does.0, request);
        halts = none_halted holder new moved.hosts refl;
      }

  -- ---- the thread ends

  ends_with : (to : HostId) (m : Message) → with_message (with_running t.step.state None) to m ≡ t.step.outcome →
      token_in m ≡ top_token (entries_of view.chain) → IsPassing split c view host to m →
      StandsBy split c view (passes host to m) after
  ends_with to m is top passing =
      let old = t.step.state in
      let new : HostState = with_running old None in
      let holder = passes host to m in
      let moved = posted new to m is in
      record {
        tight = posts new holder to m moved refl refl refl (waits_for holder host old.waiting refl refl)
            (own_flight to m new moved) top (λ same. absurd (cc)) (refl, refl, refl);
        holds = holds_same split c view world after host old new _ t.stands.holds t.step.obeys moved refl refl refl;
        sends = tt;
        does = (t.stands.does.0, passing);
        halts = none_halted holder new moved.hosts refl;
      }

  -- ---- an entry is taken off

  module _ (new : HostState) (puts : after.hosts ≡ slice_set world.hosts host.0 (Some new)) where
    before_at : (other : HostId) (P : HostState → Type 0) → IsSomeAnd (state_at after other) P →
        (P new → P t.step.state) → IsSomeAnd (state_at world other) P
    before_at other P has keeps = was_at world after host other t.step.state new t.step.obeys puts P has keeps

    runs_elsewhere : (token : Token) (other : HostId) → new.running ≡ None → HoldsAt after token (running_on other) →
        HoldsAt world token (running_on other) × (other.0 ≢ host.0)
    runs_elsewhere token other rests has =
        let P : HostState → Type 0 = λ s. IsSomeAnd s.running (λ one. one.held ≡ Some token) in
        let at = one_of_some (state_at after other) P has in
        elim (either world after host t.step.state new after.flying t.step.obeys
        (record { hosts = puts; flying = refl }) other at.one at.is) [
          | inl mover ↦
              absurd (subst (λ o. IsSomeAnd o (λ (one : ThreadShape). one.held ≡ Some token)) rests
              (subst P mover.is at.has))
          | inr one ↦ (some_of (state_at world other) P at.one one.obeys at.has, one.apart)
        ]

    nobody_has : (token : Token) → new.running ≡ None → new.waiting ≡ t.step.state.waiting →
        new.entries ≡ t.step.state.entries → after.flying ≡ world.flying →
        ((place : TokenPlace) → HoldsAt world token place → place ≡ running_on host) → (place : TokenPlace) →
        HoldsAt after token place → ⊥
    nobody_has token rests waiting entries flying only (running_on other) has =
        let before = runs_elsewhere token other rests has in
        let same = only (running_on other) before.0 in
        let one : other ≡ host = cc in
        before.1 (ap (λ (h : HostId). h.0) one)
    nobody_has token rests waiting entries flying only (waiting_on other at) has =
        let same =
        only (waiting_on other at)
        (before_at other (λ s. IsSomeAnd (slice_get s.waiting at) (λ w. w.thread.held ≡ Some token)) has
        (subst (λ list. IsSomeAnd (slice_get list at) (λ w. w.thread.held ≡ Some token)) waiting)) in
        absurd (cc)
    nobody_has token rests waiting entries flying only (kept_on other at) has =
        let same =
        only (kept_on other at)
        (before_at other (λ s. IsSomeAnd (slice_get s.entries at) (λ e. e.kept ≡ token)) has
        (subst (λ list. IsSomeAnd (slice_get list at) (λ e. e.kept ≡ token)) entries)) in
        absurd (cc)
    nobody_has token rests waiting entries flying only (in_flight from to at) has =
        let same =
        only (in_flight from to at)
        (subst (λ (f : Flying). IsSomeAnd (slice_get (f from to) at) (λ flight. token_in flight.message ≡ Some token))
        flying has) in
        absurd (cc)

  popping : Popping split c view (runs host thread) world after host
  popping = record {
    outside = t.stands.tight.outside;
    linked = t.stands.tight.linked;
    there = λ e among. (each_among (IsStanding world) (entries_of view.chain) e t.stands.tight.standing among).there;
    unsent = unsent_below world (entries_of view.chain) t.stands.tight.standing;
    holds = t.stands.holds;
    runs_on = λ has. let same = t.stands.halts has in absurd (cc);
    is_chain = t.stands.does.0;
    lawful = t.lawful;
    fits = t.fits;
    account = t.account;
    quiet = t.quiet;
    old = t.step.state;
    obeys = t.step.obeys;
    bare = with_running t.step.state None;
    is_bare = record {
      me = refl;
      waiting = refl;
      entries = refl;
      rows = refl;
      variables = refl;
      frames = refl;
      halts = refl;
      rests = refl;
    };
    outcome = t.step.outcome;
    flying = world.flying;
    moved = λ new is.
        moved_silent world host t.step.outcome new (label_of_turn split.code t.step.state) after is t.step.leaves;
    others_open = λ from to.
        all_as (λ flight. OwnsMessage (runs host thread) from to flight.message
        ⊎ MessageIsOpen (threat_in split) flight.message) (λ flight. MessageIsOpen (threat_in split) flight.message)
        (world.flying from to) (λ flight either. other_of either (λ never. never))
        (t.stands.tight.outside.flying from to);
    waits = waits_open;
    own_runs = λ other apart own. apart own;
    own_waits = λ other one own. own;
  }

  held_here : (token : Token) → top_token (entries_of view.chain) ≡ Some token →
      HoldsAt world token (running_on host)
  held_here token top =
      some_of (state_at world host) (λ s. IsSomeAnd s.running (λ one. one.held ≡ Some token)) t.step.state t.step.obeys
      (some_of t.step.state.running (λ one. one.held ≡ Some token) thread t.running (t.stands.does.1.held ∙ top))

  -- ---- whatever the turn makes

  ends_if : (token : Token) (b : Bool) → (b ≡ true → top_token t.step.state.entries ≡ Some token) →
      token.host ≡ host → top_token (entries_of view.chain) ≡ Some token → GivesUp split c view →
      without_message (if b then after_pop split.code (with_running t.step.state None) t.step.state.entries
      else with_one_ignored (with_running t.step.state None)) ≡ t.step.outcome → Goes split c after
  unfolding popping
  ends_if token true passing own top gives_up is =
      pops_held split c view (runs host thread) world after host popping (running_on host)
      (λ other at same. absurd (cc)) token (held_here token top) own top (passing refl) gives_up is
  ends_if token false passing own top gives_up is =
      let new : HostState = with_one_ignored (with_running t.step.state None) in
      let moved =
      moved_silent world host t.step.outcome new (label_of_turn split.code t.step.state) after is t.step.leaves in
      loses split c view (runs host thread) world after host popping (running_on host) held_here
      t.stands.tight.standing gives_up is
      (λ lost_token only place. nobody_has new moved.hosts lost_token refl refl refl moved.flying only place)

  pub goes_of : turns.Turned split c view world host t.step.state thread t.step.outcome → Goes split c after
  goes_of (turns.runs_on g) = let it = goes_on c 0 g in standing.stays it.0 it.1 it.2 it.3
  goes_of (turns.steps now does g) = let it = goes_on now STEP g in standing.steps now it.0 it.1 it.2 does it.3
  goes_of (turns.asks a) =
      let w = waiting_for t.step.state thread.at a.next a.awaited a.to in
      standing.stays view (asked host w a.asking) tt
      (asks a.next a.awaited a.to a.asking a.is (request_number split c view host a.to w a.asking a.request)
      (request_top split c view host a.to w a.asking a.request) (inl a.request))
  goes_of (turns.gives g) =
      let w = waiting_for t.step.state thread.at g.next acknowledgement g.to in
      let m = message.Forward (next_request t.step.state thread.at) g.frame g.x g.value in
      standing.stays view (asked host w m) tt
      (asks g.next acknowledgement g.to m g.is refl g.result.at.held (inr (refl, refl, g.may, g.result)))
  goes_of (turns.hands h) =
      standing.stays view (passes host h.to h.said) tt
      (ends_with h.to h.said h.is (arrival_token h.said h.arrival h.arrives ∙ sym h.top)
      (passing_by split c view host h.to h.said h.arrival h.arrives h.goes))
  goes_of (turns.returns r) =
      let m = message.Lgoto r.token in
      standing.stays view (passes host r.token.host m) tt
      (ends_with r.token.host m r.is (sym r.top) (record { host = refl; top = r.top; gives_up = r.gives_up }))
  goes_of (turns.ends e) = ends_if e.token e.passes e.passing.0 e.own e.top e.gives_up e.is
