-- A turn of the holder's thread that sends a misbehaving host a message without the token of the first entry: the
-- thread waits for that host.
use Rattle.std.proofs.Common.{◌≡◌, ◌∙◌, ◌⊎◌, inl, inr, ℕ, ℤ, Bool, true, false, List, [], ◌∷◌, ◌++◌, Some, None, refl}
use Rattle.std.proofs.Common.{sym, ap, subst}
use Rattle.std.specs.Prelude.{All}
use Rattle.std.specs.List.{AllByRecursion}
use Rattle.js_base.specs.declared.ids.FieldId.{FieldId}
use Rattle.js_base.specs.declared.ids.HostId.{HostId}
use Rattle.host_decl.specs.Hosts as declared_hosts
use Rattle.jif_tree.specs.Altered.{FieldIsAffected}
use Rattle.jif_tree.specs.SourceRun.{Configuration}
use Rattle.jif_tree.specs.Store.{row_of, element_at}
use Rattle.capability.specs.declared.token.Token.{Token}
use Rattle.ics_stack.specs.declared.stack.StackEntry.{StackEntry}
use Rattle.ics_stack.specs.Stack.{top_token}
use Rattle.host_code.specs.declared.message.Message.{Message}
use Rattle.host_code.specs.declared.message.Message.TheVariants as message
use Rattle.host_code.specs.Thread.{ThreadShape, Awaited}
use Rattle.host_code.specs.Thread.Awaited.{acknowledgement}
use Rattle.host_core.specs.Host.{HostState, with_message, without_message, with_running, after_asking}
use Rattle.host_core.specs.Turn.{label_of_turn}
use Rattle.event_text.specs.declared.event.Event.{Event}
use Rattle.split_rules.specs.Placed.{PlacedProgram}
use Rattle.split_rules.specs.Allowed.{IsAllowed}
use Rattle.split_rules.specs.Held.{IsWellHeld}
use Rattle.net_world.specs.World.{state_at, WorldShape, IsTurnStep, misbehaves}
use Rattle.net_world.specs.Told.{token_in}
use Rattle.net_world.proofs.Fitting.{bad_differs}
use Rattle.net_world.proofs.Moved.{moved_told, moved_posted, silent_sent}
use Rattle.token_laws.specs.Holders.{IsTokenSent}
use Rattle.token_laws.specs.Numbers.{CodeHasNumbers, RowsHaveNumbers, EventHasNumbers}
use Rattle.token_laws.specs.Reached.{IsReached}
use Rattle.typed_steps.specs.Views.{entries_of, Split, View, values_set, with_out}
use Rattle.typed_steps.specs.Requests.{FieldIsOn, IsRequest}
use Rattle.typed_steps.specs.Turns as turns
use Rattle.typed_steps.specs.Turns.{waiting_for}
use Rattle.typed_steps.specs.Variables.{CanSend, AreSent, HasWhatIsOwed}
use Rattle.split_rules.specs.Positions.{without_forward}
use Rattle.split_rules.proofs.Riding.{all_without}
use Rattle.integrity.specs.Holding.{IsAmong, IsStanding, runs}
use Rattle.integrity.specs.Exposed.{bad_labels}
use Rattle.integrity.specs.Outside.{Threat, threat_of}
use Rattle.integrity.specs.Standing.{threat_in, GoesOnWhatever, StandsBy, Stalls, waits, waits_behind}
use Rattle.integrity.proofs.Among.{one_of_some}
use Rattle.integrity.proofs.HeldFields.{field_on_bad}
use Rattle.integrity.proofs.TightLaws.{lawful}
use Rattle.integrity.proofs.Elsewhere.{holds_sent, holds_result_sent}
use Rattle.integrity.proofs.Entering.{arrival_token}
use Rattle.integrity.proofs.HolderLaws.{HolderTurn, turn_of}
use Rattle.integrity.proofs.TellMoves.{Telling, telling, sent_is, silent_never, waits_for, sets_there}

module _ (split : Split) (c : Configuration) (view : View) (host : HostId) (thread : ThreadShape)
    (world after : WorldShape) (to : HostId) (m : Message) (t : Telling split c view host thread world after to m)
    (fresh : (token : Token) → token_in m ≡ Some token → top_token (entries_of view.chain) ≡ Some token → ⊥)
    (opens : (field : FieldId) → FieldIsOn split.code field to → FieldIsAffected split.exposure field) where
  abbrev Asked : ThreadShape → Awaited → Type 0
  Asked next awaited =
      with_message (after_asking (with_running t.step.state None) thread.at next awaited to) to m ≡ t.step.outcome

  -- what the thread waits for
  asked_stalls : (next : ThreadShape) (awaited : Awaited) → Asked next awaited → (said : Message) → said ≡ m →
      IsRequest split c view host to (waiting_for t.step.state thread.at next awaited to) said → Stalls split c host
      after
  asked_stalls next awaited is (message.Get request field place) same asks =
      let w = waiting_for t.step.state thread.at next awaited to in
      let at = asks.4 (element_at (row_of c.store field.0) place) (inl refl) in
      waits view w (waits_for split c view host thread world after to m t view next awaited is refl t.stands.does.0
      at.held t.sends c (λ later holds bad. holds)
      (subst (GoesOnWhatever split c view host w) (sym asks.0)
      (λ value number. asks.4 value (inr (opens field asks.3, number)))))
  asked_stalls next awaited is (message.Set request field index value) same asks =
      let sets =
      sets_there split c view host thread world after to m t request field index value (sym same) next awaited is asks
      in
      waits_behind sets.now view sets.waiting sets.does sets.stands
  asked_stalls next awaited is (message.Forward request frame x value) same asks =
      let w = waiting_for t.step.state thread.at next awaited to in
      let seen = with_out view (without_forward x to view.out) in
      let sends =
      all_without (CanSend split (view.values view.sender)
      (t.step.state.variables (view.naming.frame view.sender)) host) x to view.out t.sends in
      waits seen w (waits_for split c view host thread world after to m t seen next awaited is refl t.stands.does.0
      asks.8.held sends c (λ later holds bad. holds_sent split c view later to x holds bad)
      (subst (GoesOnWhatever split c seen host w) (sym asks.0) asks.8))
  asked_stalls next awaited is (message.Sync request frame entry token) same asks =
      absurd (fresh token (ap token_in (sym same)) asks.4)
  asked_stalls next awaited is (message.Rgoto frame entry token) same asks = absurd asks
  asked_stalls next awaited is (message.RgotoWith frame entry token riders) same asks = absurd asks
  asked_stalls next awaited is (message.Lgoto token) same asks = absurd asks
  asked_stalls next awaited is (message.Value request value) same asks = absurd asks
  asked_stalls next awaited is (message.Ack request) same asks = absurd asks
  asked_stalls next awaited is (message.Token request token) same asks = absurd asks

  -- a result is given to the misbehaving host
  gives_stalls : (g : turns.ThreadGives split c view host t.step.state thread t.step.outcome) → g.to ≡ to →
      Asked g.next acknowledgement → Stalls split c host after
  gives_stalls g same is =
      let result = g.result in
      let w = waiting_for t.step.state thread.at g.next acknowledgement to in
      let seen : HostId → View = λ keeper.
      record view { values = values_set view.values result.caller g.x.0 g.value; keeper = keeper } in
      let sends : HasWhatIsOwed split (seen to) t.step.state host =
      subst (AreSent split ((seen to).values view.sender) (t.step.state.variables (view.naming.frame view.sender)) host)
      (sym result.none_out) tt in
      waits_behind result.now (seen to) w result.does
      (waits_for split c view host thread world after to m t (seen to) g.next acknowledgement is refl t.stands.does.0
      result.at.held sends result.now (λ later holds bad.
      holds_result_sent split c result.now view later to result.caller g.x g.value holds bad result.made result.unread
      result.store result.calls)
      (subst (λ keeper. GoesOnWhatever split result.now (seen keeper) host w acknowledgement) same result.at))

  pub stalls_by : turns.Turned split c view world host t.step.state thread t.step.outcome → Stalls split c host after
  stalls_by (turns.runs_on g) = absurd (silent_never split c view host thread world after to m t _ g.is)
  stalls_by (turns.steps now does g) = absurd (silent_never split c view host thread world after to m t _ g.is)
  stalls_by (turns.asks a) =
      let same = sent_is split c view host thread world after to m t _ a.to a.asking a.is in
      let new : HostId → HostState =
      λ h. after_asking (with_running t.step.state None) thread.at a.next a.awaited h in
      asked_stalls a.next a.awaited
      (subst (λ h. with_message (new h) h m ≡ t.step.outcome) same.0
      (subst (λ x. with_message (new a.to) a.to x ≡ t.step.outcome) same.1 a.is)) a.asking same.1
      (subst (λ h. IsRequest split c view host h (waiting_for t.step.state thread.at a.next a.awaited h) a.asking)
      same.0 a.request)
  stalls_by (turns.gives g) =
      let same = sent_is split c view host thread world after to m t _ _ _ g.is in
      let new : HostId → HostState =
      λ h. after_asking (with_running t.step.state None) thread.at g.next acknowledgement h in
      gives_stalls g same.0
      (subst (λ h. with_message (new h) h m ≡ t.step.outcome) same.0
      (subst (λ x. with_message (new g.to) g.to x ≡ t.step.outcome) same.1 g.is))
  stalls_by (turns.hands h) =
      let same = sent_is split c view host thread world after to m t _ _ _ h.is in
      absurd (fresh h.arrival.token
      (ap token_in (sym same.1) ∙ arrival_token h.said h.arrival h.arrives) h.top)
  stalls_by (turns.returns r) =
      let same = sent_is split c view host thread world after to m t _ _ _ r.is in
      absurd (fresh r.token (ap token_in (sym same.1)) r.top)
  stalls_by (turns.ends e) = absurd (silent_never split c view host thread world after to m t _ e.is)

-- ---- the law

holder_stalls : (split : Split) (rows : List declared_hosts.HostShape) (bad : ℕ) (store : List (List ℤ))
    (events : List Event) (world after : WorldShape) (host : HostId) (thread : ThreadShape) (c : Configuration)
    (view : View) (to : HostId) (m : Message) → split.exposure.bad ≡ bad_labels bad 0 rows →
    IsReached split.code rows bad store events world → CodeHasNumbers split.code → RowsHaveNumbers store →
    All EventHasNumbers events → IsTurnStep split.code world host after → misbehaves world to ≡ true →
    after.sent ≡ world.sent ++ (host, to, m) ∷ [] →
    ((token : Token) → token_in m ≡ Some token → top_token (entries_of view.chain) ≡ Some token → ⊥) →
    ((field : FieldId) → FieldIsOn split.code field to → FieldIsAffected split.exposure field) →
    StandsBy split c view (runs host thread) world → Stalls split c host after
holder_stalls split rows bad store events world after host thread c view to m same reach code_numbers store_numbers said
    step misbehaving told fresh opens stands =
    let turn =
    turn_of split rows bad store events world after host thread c view same reach code_numbers store_numbers said step
    stands in
    stalls_by split c view host thread world after to m
    (telling split c view host thread world after to m step turn stands misbehaving told) fresh opens turn.turned

pub holder_sends : (split : Split) (placed : PlacedProgram) (bad : ℕ) (store : List (List ℤ)) (events : List Event)
    (world after : WorldShape) (host : HostId)
    (thread : ThreadShape) (c : Configuration) (view : View) (to : HostId) (m : Message) →
    threat_in split ≡ threat_of placed split.table bad → IsAllowed placed →
    IsWellHeld placed → IsReached split.code placed.hosts.hosts bad store events world →
    CodeHasNumbers split.code → RowsHaveNumbers store → All EventHasNumbers events →
    IsTurnStep split.code world host after → misbehaves world to ≡ true →
    after.sent ≡ world.sent ++ (host, to, m) ∷ [] → token_in m ≡ None →
    StandsBy split c view (runs host thread) world → Stalls split c host after
holder_sends split placed bad store events world after host thread c view to m same allowed held
    reach code_numbers store_numbers said step misbehaving told none stands =
    let exposed = ap (λ (t : Threat). t.exposure.bad) same in
    let is = lawful (threat_in split) placed.hosts.hosts bad store events world exposed reach in
    holder_stalls split placed.hosts.hosts bad store events world after host thread c view to m exposed reach
    code_numbers
    store_numbers said step misbehaving told
    (λ token has top. absurd (let never : None ≡ Some token = sym none ∙ has in cc))
    (λ field on.
    field_on_bad split placed bad world same allowed held is.bad field to on misbehaving) stands

-- ---- a turn tells a misbehaving host something, or nothing

pub record TellsOne (host : HostId) (world after : WorldShape) : Type 0 where
  pub to : HostId
  pub m : Message
  pub bad : misbehaves world to ≡ true
  pub told : after.sent ≡ world.sent ++ (host, to, m) ∷ []

module _ (split : Split) (c : Configuration) (view : View) (host : HostId) (thread : ThreadShape)
    (world after : WorldShape) (step : IsTurnStep split.code world host after)
    (turn : HolderTurn split c view host thread world after step) where
  told_if : (new : HostState) (to : HostId) (m : Message) → with_message new to m ≡ step.outcome → (bad : Bool) →
      misbehaves world to ≡ bad → (after.sent ≡ world.sent) ⊎ TellsOne host world after
  told_if new to m is true bad = inr (record {
    to = to;
    m = m;
    bad = bad;
    told = (moved_told world host step.outcome step.state new to m (label_of_turn split.code step.state) turn.label
        after step.obeys bad turn.labels is step.leaves).sent;
  })
  told_if new to m is false good =
      inl (moved_posted world host step.outcome step.state new to m (label_of_turn split.code step.state) turn.label
      after step.obeys good turn.labels is step.leaves).sent

  told_there : (new : HostState) (to : HostId) (m : Message) → with_message new to m ≡ step.outcome →
      (after.sent ≡ world.sent) ⊎ TellsOne host world after
  told_there new to m is = told_if new to m is (misbehaves world to) refl

  silent_there : (new : HostState) → without_message new ≡ step.outcome →
      (after.sent ≡ world.sent) ⊎ TellsOne host world after
  silent_there new is =
      inl (silent_sent world host step.outcome new (label_of_turn split.code step.state) after is step.leaves)

  pub tells : turns.Turned split c view world host step.state thread step.outcome →
      (after.sent ≡ world.sent) ⊎ TellsOne host world after
  tells (turns.runs_on g) = silent_there _ g.is
  tells (turns.steps now does g) = silent_there _ g.is
  tells (turns.asks a) = told_there _ _ _ a.is
  tells (turns.gives g) = told_there _ _ _ g.is
  tells (turns.hands h) = told_there _ _ _ h.is
  tells (turns.returns r) = told_there _ _ _ r.is
  tells (turns.ends e) = silent_there _ e.is

-- misbehaving hosts were not sent the token of the first entry, and it is none of theirs
pub top_stands : (world : WorldShape) (list : List StackEntry) (token : Token) →
    AllByRecursion (IsStanding world) list → top_token list ≡ Some token →
    IsTokenSent world token ⊎ (misbehaves world token.host ≡ true) → ⊥
top_stands world [] token standing top either = absurd (cc)
top_stands world (e ∷ list) token standing top either =
    let same : e.token ≡ token = cc in
    let at = one_of_some (state_at world e.token.host) (λ state. IsAmong state.entries e) standing.0.there in
    elim either [
      | inl sent ↦ standing.0.unsent (subst (IsTokenSent world) (sym same) sent)
      | inr bad ↦
          bad_differs world token.host e.token.host at.one bad at.is (ap (λ (t : Token). t.host) (sym same))
    ]
