-- A turn of the holder's thread that sets a field of a misbehaving host: the step is made at once, and the thread waits
-- for that host.
use Rattle.std.proofs.Common.{◌≡◌, ◌∙◌, ◌⊎◌, inl, inr, ℕ, ℤ, Bool, true, false, List, [], ◌∷◌, ◌++◌, Some, None, refl}
use Rattle.std.proofs.Common.{sym, ap, subst}
use Rattle.std.specs.Prelude.{All}
use Rattle.std.proofs.lemmas.List.Elements.{All-push}
use Rattle.js_base.specs.declared.ids.FieldId.{FieldId}
use Rattle.js_base.specs.declared.ids.HostId.{HostId}
use Rattle.js_base.specs.declared.ids.RequestId.{RequestId}
use Rattle.host_decl.specs.Hosts as declared_hosts
use Rattle.jif_tree.specs.SourceRun.{Configuration}
use Rattle.ics_stack.specs.declared.stack.StackEntry.{StackEntry}
use Rattle.ics_stack.specs.Stack.{top_token}
use Rattle.host_code.specs.declared.message.Message.{Message}
use Rattle.host_code.specs.declared.message.Message.TheVariants as message
use Rattle.host_code.specs.Thread.{ThreadShape, WaitingShape, Awaited}
use Rattle.host_core.specs.Host.{HostState, with_message, without_message, with_running, after_asking}
use Rattle.host_core.specs.Turn.{label_of_turn}
use Rattle.event_text.specs.declared.event.Event.{Event}
use Rattle.net_world.specs.Fits.{ShapeFits}
use Rattle.net_world.specs.Told.{SentMessage}
use Rattle.net_world.specs.World.{WorldShape, IsTurnStep, state_at, misbehaves}
use Rattle.net_world.proofs.Moved.{bad_moved, mover_state, moved_told, moved_posted, silent_sent}
use Rattle.token_laws.specs.Numbers.{CodeHasNumbers, RowsHaveNumbers, EventHasNumbers}
use Rattle.token_laws.specs.Reached.{IsReached}
use Rattle.token_laws.proofs.EachFlight.{of_state}
use Rattle.token_laws.proofs.WorldTokens.{Accounts}
use Rattle.typed_steps.specs.Turns as turns
use Rattle.typed_steps.specs.Turns.{waiting_for}
use Rattle.typed_steps.specs.Variables.{HasWhatIsOwed, HostsHold}
use Rattle.typed_steps.specs.Views.{entries_of, Split, View}
use Rattle.typed_steps.specs.Chains.{IsChain}
use Rattle.typed_steps.specs.Requests.{IsRequest}
use Rattle.split_rules.specs.Handing.{arrival_in}
use Rattle.typed_steps.proofs.HeldSteps.{holds_same}
use Rattle.integrity.specs.Exposed.{bad_labels}
use Rattle.integrity.specs.Holding.{IsAmong, runs, stuck, halted, OwnsWaiting, OwnsMessage, StateIsOutside}
use Rattle.integrity.specs.Holding.{IsStanding, IsTight}
use Rattle.integrity.specs.Outside.{ThreadIsOpen, MessageIsOpen}
use Rattle.integrity.specs.Standing.{threat_in, GoesOnWhatever, StandsBy, SetsThere}
use Rattle.integrity.proofs.Elsewhere.{holds_elsewhere}
use Rattle.integrity.proofs.HolderLaws.{HolderTurn, turn_of}
use Rattle.integrity.proofs.Among.{each_among, some_of, last_at}
use Rattle.integrity.proofs.FliesOn.{FlyAs}
use Rattle.integrity.proofs.HolderStays.{on_some}
use Rattle.integrity.proofs.OpenWorlds.{state_fits}
use Rattle.integrity.proofs.OutsideEvents.{other_of}
use Rattle.integrity.proofs.StandsOn.{halted_before}
use Rattle.integrity.proofs.TightKept.{IsLawful}
use Rattle.integrity.proofs.TightMoves.{tight_moved, all_as}
use Rattle.integrity.proofs.TurnMoves.{never_more}

-- ---- the turn

-- what is known before the turn, and after it
pub record Telling (split : Split) (c : Configuration) (view : View) (host : HostId) (thread : ThreadShape)
    (world after : WorldShape) (to : HostId) (m : Message) : Type 0 where
  pub stands : StandsBy split c view (runs host thread) world
  pub lawful : IsLawful (threat_in split) world
  pub fits : ShapeFits split.code after
  pub account : Accounts world after
  pub step : IsTurnStep split.code world host after
  pub sends : HasWhatIsOwed split view step.state host
  pub label : ℕ
  pub labels : label_of_turn split.code step.state ≡ Some label
  pub bad : misbehaves world to ≡ true
  pub told : after.sent ≡ world.sent ++ (host, to, m) ∷ []

same_last : {X : Type 0} (xs : List X) (x y : X) → xs ++ x ∷ [] ≡ xs ++ y ∷ [] → x ≡ y
same_last [] x y is = cc
same_last (z ∷ xs) x y is = same_last xs x y (let rest : xs ++ x ∷ [] ≡ xs ++ y ∷ [] = cc in rest)

module _ (split : Split) (c : Configuration) (view : View) (host : HostId) (thread : ThreadShape)
    (world after : WorldShape) (to : HostId) (m : Message) (t : Telling split c view host thread world after to m) where
  not_silent : after.sent ≡ world.sent → ⊥
  not_silent same = never_more world.sent (host, to, m) (sym t.told ∙ same)

  -- what is sent is what is told
  sent_if : (new : HostState) (other : HostId) (said : Message) → with_message new other said ≡ t.step.outcome →
      (bad : Bool) → misbehaves world other ≡ bad → (other ≡ to) × (said ≡ m)
  sent_if new other said is true bad =
      let told =
      moved_told world host t.step.outcome t.step.state new other said (label_of_turn split.code t.step.state) t.label
      after t.step.obeys bad t.labels is t.step.leaves in
      let same : ◌≡◌ {A = SentMessage} (host, other, said) (host, to, m) =
      same_last world.sent (host, other, said) (host, to, m) (sym told.sent ∙ t.told) in
      (ap (λ (s : SentMessage). s.1) same, ap (λ (s : SentMessage). s.2) same)
  sent_if new other said is false good =
      let posted =
      moved_posted world host t.step.outcome t.step.state new other said (label_of_turn split.code t.step.state) t.label
      after t.step.obeys good t.labels is t.step.leaves in
      absurd (not_silent posted.sent)

  pub sent_is : (new : HostState) (other : HostId) (said : Message) → with_message new other said ≡ t.step.outcome →
      (other ≡ to) × (said ≡ m)
  sent_is new other said is = sent_if new other said is (misbehaves world other) refl

  pub silent_never : (new : HostState) → without_message new ≡ t.step.outcome → ⊥
  silent_never new is =
      not_silent
      (silent_sent world host t.step.outcome new (label_of_turn split.code t.step.state) after is t.step.leaves)

  pub was : StateIsOutside (threat_in split) (entries_of view.chain) (runs host thread) t.step.state
  was = of_state (StateIsOutside (threat_in split) (entries_of view.chain) (runs host thread)) world host t.step.state
      t.stands.tight.outside.states t.step.obeys

  pub me_is : t.step.state.me ≡ host
  me_is = (state_fits (threat_in split) world host t.step.state t.lawful.fits t.step.obeys).me

  pub standing_each : (e : StackEntry) → IsAmong (entries_of view.chain) e → IsStanding world e
  standing_each e = each_among (IsStanding world) (entries_of view.chain) e t.stands.tight.standing

  -- the thread waits for the misbehaving host
  pub waits_for : (seen : View) (next : ThreadShape) (awaited : Awaited) →
      with_message (after_asking (with_running t.step.state None) thread.at next awaited to) to m ≡ t.step.outcome →
      entries_of view.chain ≡ entries_of seen.chain → IsChain split seen.naming seen.chain →
      next.held ≡ top_token (entries_of view.chain) → HasWhatIsOwed split seen t.step.state host →
      (now : Configuration) →
      ((later : WorldShape) → HostsHold split c view later → misbehaves later to ≡ true →
      HostsHold split now seen later) →
      GoesOnWhatever split now seen host (waiting_for t.step.state thread.at next awaited to) awaited →
      StandsBy split now seen (stuck host (waiting_for t.step.state thread.at next awaited to)) after
  waits_for seen next awaited is same_chain is_chain top sends now holds ready =
      let old = t.step.state in
      let new : HostState = after_asking (with_running old None) thread.at next awaited to in
      let w = waiting_for old thread.at next awaited to in
      let holder = stuck host w in
      let told =
      moved_told world host t.step.outcome old new to m (label_of_turn split.code old) t.label after t.step.obeys t.bad
      t.labels is t.step.leaves in
      let moved = told.moved in
      let there : state_at after host ≡ Some new =
      mover_state world after host old new world.flying t.step.obeys moved in
      let bad : misbehaves after to ≡ true =
      bad_moved world after host old new world.flying t.step.obeys moved to ∙ t.bad in
      let Waits : WaitingShape → Type 0 =
      λ one. OwnsWaiting holder old.me one ⊎ ThreadIsOpen (threat_in split) old.me one.thread in
      record {
        tight = subst (λ chain. IsTight (threat_in split) chain holder after) same_chain
            (tight_moved (threat_in split) (entries_of view.chain) (entries_of view.chain) (runs host thread) holder
            world after t.lawful t.fits t.account t.stands.tight (record {
              me = host;
              old = old;
              new = new;
              obeys = t.step.obeys;
              puts = moved.hosts;
              linked = t.stands.tight.linked;
              stands = λ e here.
                  on_some world after host e.token.host old new t.step.obeys moved.hosts
                  (λ state. IsAmong state.entries e) (standing_each e here).there (λ same has. has);
              known = λ e here. inl (standing_each e here);
              there = (some_of (state_at after host) (λ s. IsAmong s.waiting w) new there (last_at old.waiting w), bad);
              has_top = top;
              held = λ same. absurd (cc);
              state = record {
                running = inr tt;
                waiting = All-push Waits old.waiting w
                    (all_as (λ one. OwnsWaiting (runs host thread) old.me one
                    ⊎ ThreadIsOpen (threat_in split) old.me one.thread) Waits old.waiting
                    (λ one either. inr (other_of either (λ never. never))) was.waiting) (inl (me_is, refl));
                entries = was.entries;
              };
              runs_as = λ other far own. absurd (far own);
              waits_as = λ other one far own. absurd own;
              keeps_as = λ e far here. here;
              flying = subst (FlyAs (λ one other said. OwnsMessage holder one other said
                  ⊎ MessageIsOpen (threat_in split) said)) (sym moved.flying) (λ one other.
                  all_as (λ flight. OwnsMessage (runs host thread) one other flight.message
                  ⊎ MessageIsOpen (threat_in split) flight.message)
                  (λ flight. OwnsMessage holder one other flight.message
                  ⊎ MessageIsOpen (threat_in split) flight.message) (world.flying one other)
                  (λ flight either. inr (other_of either (λ never. never)))
                  (t.stands.tight.outside.flying one other));
            }));
        holds = holds after (holds_same split c view world after host old new world.flying t.stands.holds t.step.obeys
            moved refl refl refl) bad;
        sends = some_of (state_at after host) (λ s. HasWhatIsOwed split seen s host) new there sends;
        does = (is_chain, ready);
        halts = λ has.
            let never : runs host thread ≡ halted =
            t.stands.halts
            (halted_before world after split.code.root host old new t.step.obeys moved.hosts refl has) in
            absurd (cc);
      }

module _ (split : Split) (c : Configuration) (view : View) (host : HostId) (thread : ThreadShape)
    (world after : WorldShape) (to : HostId) (m : Message) (t : Telling split c view host thread world after to m)
    (request : RequestId) (field : FieldId) (index value : ℤ) (is_set : m ≡ message.Set request field index value) where
  pub sets_there : (next : ThreadShape) (awaited : Awaited) →
      with_message (after_asking (with_running t.step.state None) thread.at next awaited to) to m ≡ t.step.outcome →
      IsRequest split c view host to (waiting_for t.step.state thread.at next awaited to)
      (message.Set request field index value) → SetsThere split c view host after
  sets_there next awaited is asks =
      let sets = asks.4 in
      record {
        now = sets.now;
        does = sets.does;
        waiting = waiting_for t.step.state thread.at next awaited to;
        stands = waits_for split c view host thread world after to m t view next awaited is refl t.stands.does.0
            sets.at.held t.sends sets.now (λ later holds bad.
            holds_elsewhere split c sets.now view later field to index value holds asks.3 bad sets.store sets.calls
            sets.plainly)
            (subst (GoesOnWhatever split sets.now view host (waiting_for t.step.state thread.at next awaited to))
            (sym asks.0)
            sets.at);
      }

  another : (new : HostState) (other : HostId) (said : Message) → with_message new other said ≡ t.step.outcome →
      said ≡ message.Set request field index value
  another new other said is =
      (sent_is split c view host thread world after to m t new other said is).1 ∙ is_set

  pub told_by : turns.Turned split c view world host t.step.state thread t.step.outcome →
      SetsThere split c view host after
  told_by (turns.runs_on g) = absurd (silent_never split c view host thread world after to m t _ g.is)
  told_by (turns.steps now does g) = absurd (silent_never split c view host thread world after to m t _ g.is)
  told_by (turns.asks a) =
      let same = sent_is split c view host thread world after to m t _ a.to a.asking a.is in
      let new : HostId → HostState =
      λ h. after_asking (with_running t.step.state None) thread.at a.next a.awaited h in
      let is : with_message (new to) to m ≡ t.step.outcome =
      subst (λ h. with_message (new h) h m ≡ t.step.outcome) same.0
      (subst (λ x. with_message (new a.to) a.to x ≡ t.step.outcome) same.1 a.is) in
      sets_there a.next a.awaited is
      (subst (IsRequest split c view host to (waiting_for t.step.state thread.at a.next a.awaited to))
      (same.1 ∙ is_set)
      (subst (λ h. IsRequest split c view host h (waiting_for t.step.state thread.at a.next a.awaited h) a.asking)
      same.0 a.request))
  told_by (turns.gives g) = (let same = another _ _ _ g.is in absurd (cc))
  told_by (turns.hands h) =
      (let none : None ≡ Some h.arrival = ap arrival_in (sym (another _ _ _ h.is)) ∙ h.arrives in absurd (cc))
  told_by (turns.returns r) = (let same = another _ _ _ r.is in absurd (cc))
  told_by (turns.ends e) = absurd (silent_never split c view host thread world after to m t _ e.is)

-- ---- the law

-- it tells a misbehaving host
abbrev pub telling : (split : Split) (c : Configuration) (view : View) (host : HostId) (thread : ThreadShape)
    (world after : WorldShape) (to : HostId) (m : Message) (step : IsTurnStep split.code world host after) →
    HolderTurn split c view host thread world after step → StandsBy split c view (runs host thread) world →
    misbehaves world to ≡ true → after.sent ≡ world.sent ++ (host, to, m) ∷ [] →
    Telling split c view host thread world after to m
telling split c view host thread world after to m step turn stands misbehaving told = record {
  stands = stands;
  lawful = turn.lawful;
  fits = turn.fits;
  account = turn.account;
  step = step;
  sends = turn.sends;
  label = turn.label;
  labels = turn.labels;
  bad = misbehaving;
  told = told;
}

pub holder_told : (split : Split) (rows : List declared_hosts.HostShape) (bad : ℕ) (store : List (List ℤ))
    (events : List Event) (world after : WorldShape) (host : HostId) (thread : ThreadShape) (c : Configuration)
    (view : View) (to : HostId) (request : RequestId) (field : FieldId) (index value : ℤ) →
    split.exposure.bad ≡ bad_labels bad 0 rows → IsReached split.code rows bad store events world →
    CodeHasNumbers split.code → RowsHaveNumbers store → All EventHasNumbers events →
    IsTurnStep split.code world host after → misbehaves world to ≡ true →
    after.sent ≡ world.sent ++ (host, to, message.Set request field index value) ∷ [] →
    StandsBy split c view (runs host thread) world → SetsThere split c view host after
holder_told split rows bad store events world after host thread c view to request field index value same reach
    code_numbers store_numbers said step misbehaving told stands =
    let m = message.Set request field index value in
    let turn =
    turn_of split rows bad store events world after host thread c view same reach code_numbers store_numbers said step
    stands in
    told_by split c view host thread world after to m
    (telling split c view host thread world after to m step turn stands misbehaving told) request field index value refl
    turn.turned
