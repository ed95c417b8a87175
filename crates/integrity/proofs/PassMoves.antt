-- The token in flight is taken: a thread starts at an entry, or the first entry of the chain is taken off, or it is
-- lost.
use Rattle.std.proofs.Common.{◌≡◌, ◌≢◌, ◌∙◌, ◌⊎◌, inl, ℕ, zero, suc, Bool, true, false, List, [], ◌∷◌, Some}
use Rattle.std.proofs.Common.{refl, sym, ap, subst, arith}
use Rattle.std.specs.Prelude.{◌==◌, slice_get, remove, IsSomeAnd}
use Rattle.js_base.specs.declared.ids.HostId.{HostId}
use Rattle.jif_tree.specs.SourceRun.{Configuration}
use Rattle.capability.specs.declared.token.Token.{Token}
use Rattle.ics_stack.specs.Stack.{top_token}
use Rattle.host_code.specs.declared.message.Message.{Message}
use Rattle.host_code.specs.declared.message.Message.TheVariants as message
use Rattle.host_code.specs.Thread.{ThreadShape}
use Rattle.host_core.specs.Host.{HostState, with_one_ignored, after_pop, thread_at}
use Rattle.host_core.specs.Taking.{IsTaking, after_taking}
use Rattle.net_world.specs.Flying.{Flight, Flying}
use Rattle.net_world.specs.Told.{token_in}
use Rattle.net_world.specs.World.{WorldShape, state_at, without_flight}
use Rattle.net_world.proofs.Moved.{Moved, mover_state, moved_silent, silent_sent}
use Rattle.token_laws.specs.Holders.{TokenPlace, running_on, waiting_on, kept_on, in_flight, HoldsAt}
use Rattle.typed_steps.specs.Variables.{HasWhatIsOwed}
use Rattle.split_rules.specs.Handing.{Arrival, arrival_in}
use Rattle.typed_steps.specs.Requests.{GoesTo}
use Rattle.typed_steps.specs.Views.{Split, View, entries_of, with_out}
use Rattle.typed_steps.proofs.Takes.{arrived, arrived_is, arrived_keeps}
use Rattle.integrity.specs.Holding.{IsAmong, runs, passes, OwnsMessage, OwnsWaiting}
use Rattle.integrity.specs.Outside.{ThreadIsOpen, MessageIsOpen}
use Rattle.integrity.specs.Standing as standing
use Rattle.integrity.specs.Standing.{threat_in, GoesBack, IsPassing, Goes}
use Rattle.integrity.proofs.Among.{one_of_some, some_of}
use Rattle.integrity.proofs.FliesOn.{FlyAs}
use Rattle.integrity.proofs.HolderStays.{on_some}
use Rattle.integrity.proofs.OutsideEvents.{other_of}
use Rattle.integrity.proofs.LooseChains.{unsent_below}
use Rattle.integrity.proofs.PopMoves.{Popping, was_at, pops_held, loses}
use Rattle.integrity.proofs.TakeMoves.{Taking, cell_apart, left_open, left_flying, me_is, none_halted, standing_each}
use Rattle.integrity.proofs.TakeMoves.{taken_is, was}
use Rattle.integrity.proofs.TightMoves.{tight_moved, all_as}

-- ---- what was in flight

-- an item that is left had another place, or the same
removed_from : {X : Type 0} (xs : List X) (out k : ℕ) (x : X) → slice_get (remove xs out) k ≡ Some x →
    (place : ℕ) × (slice_get xs place ≡ Some x) × (place ≢ out)
removed_from [] zero k x is = absurd (cc)
removed_from [] (suc out) k x is = absurd (cc)
removed_from (y ∷ xs) zero k x is = (suc k, is, λ same. absurd (omega (arith, same)))
removed_from (y ∷ xs) (suc out) zero x is = (0, is, λ same. absurd (omega (arith, same)))
removed_from (y ∷ xs) (suc out) (suc k) x is =
    let rest = removed_from xs out k x is in (suc rest.0, rest.1, λ same. rest.2 (omega (arith, same)))

-- the place that a message had which is left
pub record WasAt (world : WorldShape) (from to : HostId) (place : ℕ) (one other : HostId) (flight : Flight) : Type 0
  where
    pub at : ℕ
    pub there : slice_get (world.flying one other) at ≡ Some flight
    pub apart : one ≡ from → other ≡ to → at ≢ place

flown : (world : WorldShape) (from to : HostId) (place : ℕ) (one other : HostId) (k : ℕ) (flight : Flight) →
    slice_get ((without_flight world from to place).flying one other) k ≡ Some flight →
    WasAt world from to place one other flight
flown world from to place one other k flight =
    cell_apart (λ flights i j. slice_get flights k ≡ Some flight →
    WasAt world from to place i j flight) world.flying from
    to (remove (world.flying from to) place) one other (one.0 == from.0) (other.0 == to.0) refl refl
    (λ first second is.
    let it = removed_from (world.flying from to) place k flight is in
    record {
      at = it.0;
      there = ap (λ h. slice_get (world.flying h other) it.0) first
          ∙ ap (λ h. slice_get (world.flying from h) it.0) second ∙ it.1;
      apart = λ same also. it.2;
    })
    (λ apart is. record { at = k; there = is; apart = λ same also. absurd (apart same also) })

-- ---- a thread starts

module _ (split : Split) (c : Configuration) (view : View) (m : Message) (world after : WorldShape) (from to : HostId)
    (place : ℕ) (t : Taking split c view (passes from to m) world after from to place) where
  message_is : t.step.flight.message ≡ m
  message_is =
      taken_is split c view (passes from to m) world after from to place t m t.stands.tight.there (refl, refl, refl)

  starts : (arrival : Arrival) → arrival_in m ≡ Some arrival → GoesTo split c view from to arrival → Goes split c after
  starts arrival arrives g =
      let old = t.step.state in
      let thread = thread_at g.there arrival.frame arrival.token in
      let new = arrived old g.there arrival in
      let seen = with_out view [] in
      let next = runs to thread in
      let me = me_is split c view (passes from to m) world after from to place t in
      let new_is =
      arrived_is split c view world from to old arrival g m t.step.outcome me arrives
      (subst (λ x. IsTaking split.code old from x t.step.outcome) message_is t.step.takes) in
      let silent =
      moved_silent (without_flight world from to place) to t.step.outcome new (Some t.step.flight.label) after new_is
      t.step.leaves in
      let flying = (without_flight world from to place).flying in
      let moved : Moved world to new flying after = record { hosts = silent.hosts; flying = silent.flying } in
      let there : state_at after to ≡ Some new = mover_state world after to old new flying t.step.obeys moved in
      let before = was split c view (passes from to m) world after from to place t in
      let each = standing_each split c view (passes from to m) world after from to place t in
      standing.stays seen next tt (record {
        tight = tight_moved (threat_in split) (entries_of view.chain) (entries_of view.chain) (passes from to m) next
            world after t.lawful t.fits t.account t.stands.tight (record {
              me = to;
              old = old;
              new = new;
              obeys = t.step.obeys;
              puts = moved.hosts;
              linked = t.stands.tight.linked;
              stands = λ e here.
                  on_some world after to e.token.host old new t.step.obeys moved.hosts
                  (λ state. IsAmong state.entries e) (each e here).there (λ same has. has);
              known = λ e here. inl (each e here);
              there = some_of (state_at after to) (λ s. s.running ≡ Some thread) new there refl;
              has_top = g.at.held;
              held = λ same. absurd (cc);
              state = record { running = inl me; waiting = before.waiting; entries = before.entries };
              runs_as = λ other far own. absurd own;
              waits_as = λ other one far own. absurd own;
              keeps_as = λ e far here. here;
              flying = subst (FlyAs (λ one other said. OwnsMessage next one other said
                  ⊎ MessageIsOpen (threat_in split) said)) (sym moved.flying)
                  (left_flying split c view (passes from to m) world after from to place t next);
            });
        holds = arrived_keeps split c view world from to old arrival g t.step.obeys t.stands.holds after moved.hosts;
        sends = some_of (state_at after to) (λ s. HasWhatIsOwed split seen s to) new there tt;
        does = (t.stands.does.0, g.at);
        halts = none_halted split c view (passes from to m) world after from to place t next new (λ same. absurd (cc))
            moved.hosts refl;
      })

  -- ---- the token comes back

  popping : (token : Token) → m ≡ message.Lgoto token → GoesBack split c view to token → after.sent ≡ world.sent →
      Popping split c view (passes from to m) world after to
  popping token is g quiet = record {
    outside = t.stands.tight.outside;
    linked = t.stands.tight.linked;
    there = λ e among. (standing_each split c view (passes from to m) world after from to place t e among).there;
    unsent = unsent_below world (entries_of view.chain) t.stands.tight.standing;
    holds = t.stands.holds;
    runs_on = λ has. let same = t.stands.halts has in absurd (cc);
    is_chain = t.stands.does.0;
    lawful = t.lawful;
    fits = t.fits;
    account = t.account;
    quiet = quiet;
    old = t.step.state;
    obeys = t.step.obeys;
    bare = t.step.state;
    is_bare = record {
      me = refl;
      waiting = refl;
      entries = refl;
      rows = refl;
      variables = refl;
      frames = refl;
      halts = refl;
      rests = t.step.rests;
    };
    outcome = t.step.outcome;
    flying = (without_flight world from to place).flying;
    moved = λ new new_is.
        let silent =
        moved_silent (without_flight world from to place) to t.step.outcome new (Some t.step.flight.label) after new_is
        t.step.leaves in
        record { hosts = silent.hosts; flying = silent.flying };
    others_open = left_open split c view (passes from to m) world after from to place t;
    waits = all_as (λ w. OwnsWaiting (passes from to m) t.step.state.me w
        ⊎ ThreadIsOpen (threat_in split) t.step.state.me w.thread)
        (λ w. ThreadIsOpen (threat_in split) to w.thread) t.step.state.waiting
        (λ w either. subst (λ h. ThreadIsOpen (threat_in split) h w.thread)
        (me_is split c view (passes from to m) world after from to place t) (other_of either (λ never. never)))
        (was split c view (passes from to m) world after from to place t).waiting;
    own_runs = λ other apart own. own;
    own_waits = λ other one own. own;
  }

  held_here : (token : Token) → m ≡ message.Lgoto token → GoesBack split c view to token → (other : Token) →
      top_token (entries_of view.chain) ≡ Some other → HoldsAt world other (in_flight from to place)
  held_here token is g other top =
      some_of (slice_get (world.flying from to) place) (λ f. token_in f.message ≡ Some other) t.step.flight t.step.there
      (ap token_in (message_is ∙ is) ∙ sym g.top ∙ top)

  -- where it is not the top one's, nobody has it any more
  nobody_has : (new : HostState) → new.running ≡ t.step.state.running → new.waiting ≡ t.step.state.waiting →
      new.entries ≡ t.step.state.entries → Moved world to new (without_flight world from to place).flying after →
      (token : Token) → ((at : TokenPlace) → HoldsAt world token at → at ≡ in_flight from to place) →
      (at : TokenPlace) →
      HoldsAt after token at → ⊥
  nobody_has new running waiting entries moved token only (running_on other) has =
      let same =
      only (running_on other)
      (was_at world after to other t.step.state new t.step.obeys moved.hosts
      (λ s. IsSomeAnd s.running (λ one. one.held ≡ Some token)) has
      (subst (λ o. IsSomeAnd o (λ (one : ThreadShape). one.held ≡ Some token)) running)) in
      absurd (cc)
  nobody_has new running waiting entries moved token only (waiting_on other at) has =
      let same =
      only (waiting_on other at)
      (was_at world after to other t.step.state new t.step.obeys moved.hosts
      (λ s. IsSomeAnd (slice_get s.waiting at) (λ one. one.thread.held ≡ Some token)) has
      (subst (λ list. IsSomeAnd (slice_get list at) (λ one. one.thread.held ≡ Some token)) waiting)) in
      absurd (cc)
  nobody_has new running waiting entries moved token only (kept_on other at) has =
      let same =
      only (kept_on other at)
      (was_at world after to other t.step.state new t.step.obeys moved.hosts
      (λ s. IsSomeAnd (slice_get s.entries at) (λ one. one.kept ≡ token)) has
      (subst (λ list. IsSomeAnd (slice_get list at) (λ one. one.kept ≡ token)) entries)) in
      absurd (cc)
  nobody_has new running waiting entries moved token only (in_flight one other k) has =
      let Has : Flight → Type 0 = λ flight. token_in flight.message ≡ Some token in
      let found = one_of_some (slice_get (after.flying one other) k) Has has in
      let it =
      flown world from to place one other k found.one
      (sym (ap (λ (f : Flying). slice_get (f one other) k) moved.flying) ∙ found.is) in
      let same =
      only (in_flight one other it.at)
      (some_of (slice_get (world.flying one other) it.at) Has found.one it.there found.has) in
      let first : one ≡ from = cc in
      let second : other ≡ to = cc in
      let third : it.at ≡ place = cc in
      it.apart first second third

  comes_if : (token : Token) → m ≡ message.Lgoto token → GoesBack split c view to token → (b : Bool) →
      (b ≡ true → top_token t.step.state.entries ≡ Some token) →
      after_taking split.code t.step.state from (message.Lgoto token) b ≡ t.step.outcome → Goes split c after
  unfolding popping
  comes_if token is g true top taken =
      let quiet =
      silent_sent (without_flight world from to place) to t.step.outcome
      (after_pop split.code t.step.state t.step.state.entries) (Some t.step.flight.label) after taken t.step.leaves in
      pops_held split c view (passes from to m) world after to (popping token is g quiet) (in_flight from to place)
      (λ other at same. absurd (cc)) token (held_here token is g token g.top) g.host g.top (top refl) g.gives_up taken
  comes_if token is g false top taken =
      let new : HostState = with_one_ignored t.step.state in
      let quiet =
      silent_sent (without_flight world from to place) to t.step.outcome new (Some t.step.flight.label) after taken
      t.step.leaves in
      let silent =
      moved_silent (without_flight world from to place) to t.step.outcome new (Some t.step.flight.label) after taken
      t.step.leaves in
      loses split c view (passes from to m) world after to (popping token is g quiet) (in_flight from to place)
      (held_here token is g) t.stands.tight.standing g.gives_up taken
      (nobody_has new refl refl refl (record { hosts = silent.hosts; flying = silent.flying }))

  comes_back : (token : Token) → m ≡ message.Lgoto token → GoesBack split c view to token → Goes split c after
  comes_back token is g =
      let taking =
      subst (λ x. IsTaking split.code t.step.state from x t.step.outcome) (message_is ∙ is) t.step.takes in
      comes_if token is g taking.0 taking.1.0 taking.2

passed_goes : (split : Split) (c : Configuration) (view : View) (m said : Message) (world after : WorldShape)
    (from to : HostId) (place : ℕ) → Taking split c view (passes from to m) world after from to place → m ≡ said →
    IsPassing split c view from to said → Goes split c after
passed_goes split c view m (message.Rgoto frame entry token) world after from to place t is g =
    starts split c view m world after from to place t _ (ap arrival_in is) g
passed_goes split c view m (message.RgotoWith frame entry token riders) world after from to place t is g =
    starts split c view m world after from to place t _ (ap arrival_in is) g
passed_goes split c view m (message.Lgoto token) world after from to place t is g =
    comes_back split c view m world after from to place t token is g
passed_goes split c view m _ world after from to place t is g = absurd g

pub passes_goes : (split : Split) (c : Configuration) (view : View) (m : Message) (world after : WorldShape)
    (from to : HostId) (place : ℕ) → Taking split c view (passes from to m) world after from to place →
    Goes split c after
passes_goes split c view m world after from to place t =
    passed_goes split c view m m world after from to place t refl t.stands.does.1
