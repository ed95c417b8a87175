-- A turn of the holder's thread that hands a misbehaving host the token of the first entry: what was due before that
-- entry is left out, and the chain is loose.
use Rattle.std.proofs.Common.{◌≡◌, ◌≢◌, ◌∙◌, ◌⊎◌, inl, inr, ℕ, zero, suc, ◌+◌, ℤ, Bool, true, List, [], ◌∷◌}
use Rattle.std.proofs.Common.{◌++◌, length, Option, Some, None, refl, sym, ap, subst, arith}
use Rattle.std.specs.Prelude.{if◌then◌else◌, slice_get, slice_index, All, Any, IfSome, IsSomeAnd}
use Rattle.std.specs.Bool.{Decides}
use Rattle.std.specs.List.{AllByRecursion}
use Rattle.std.proofs.lemmas.Bool.{ne_eqb}
use Rattle.std.proofs.lemmas.List.Elements.{All-push}
use Rattle.js_base.specs.declared.ids.EntryId.{EntryId}
use Rattle.js_base.specs.declared.ids.HostId.{HostId}
use Rattle.js_base.specs.declared.ids.StmtId.{StmtId}
use Rattle.js_base.specs.declared.ids.VarId.{VarId}
use Rattle.label_lattice.specs.declared.label.Label.{Label}
use Rattle.label_lattice.specs.Label.{IsTrustedBy}
use Rattle.jif_tree.specs.SourceRun.{Configuration}
use Rattle.jif_tree.specs.Trees as trees
use Rattle.capability.specs.declared.token.Token.{Token}
use Rattle.ics_stack.specs.declared.stack.StackEntry.{StackEntry}
use Rattle.ics_stack.specs.Stack.{top_token}
use Rattle.host_code.specs.declared.code.Entry.{Entry}
use Rattle.host_code.specs.declared.instruction.Instr.{Instr}
use Rattle.host_code.specs.declared.instruction.Op.{Op}
use Rattle.host_code.specs.declared.instruction.Op.TheVariants as op
use Rattle.host_code.specs.declared.message.Message.{Message}
use Rattle.host_code.specs.declared.message.Message.TheVariants as message
use Rattle.host_code.specs.Code.{entry_at, instruction_at}
use Rattle.host_code.specs.Sound.{IsEntryOn, OperationFits}
use Rattle.host_code.specs.Thread.{ThreadShape, WaitingShape}
use Rattle.host_code.specs.Thread.Awaited.{token_of_entry}
use Rattle.host_core.specs.Host.{HostState, Outcome, with_message, with_running, with_token}
use Rattle.host_core.specs.Host.{after_step, after_asking, next_request}
use Rattle.host_core.specs.Turn.{after_operation, after_ask, after_go, after_go_with, after_own_call, riders_of}
use Rattle.host_core.specs.Turn.{label_of_turn, IsTurnOf, IsRunning}
use Rattle.entry_check.specs.Checks.{label_of_host}
use Rattle.event_text.specs.declared.event.Event.{Event}
use Rattle.msg_cost.specs.Moves.{is_trusted_for}
use Rattle.net_world.specs.Flying.{Flying}
use Rattle.net_world.specs.World.{WorldShape, IsTurnStep, state_at, misbehaves}
use Rattle.net_world.specs.Told.{token_in}
use Rattle.net_world.proofs.Fitting.{bad_differs}
use Rattle.net_world.proofs.Moved.{Moved, moved_told}
use Rattle.net_world.proofs.Present.{same_id}
use Rattle.split_rules.specs.Placed.{PlacedProgram}
use Rattle.split_rules.specs.Opening.{IsOpenTo, MayRun, MayRunAll}
use Rattle.split_rules.specs.Allowed.{IsAllowed}
use Rattle.split_rules.specs.Held.{IsWellHeld}
use Rattle.split_rules.specs.Positions.{Position, Calling, entering, calm, under, statement_due, Entrance, Forward}
use Rattle.split_rules.specs.Positions.{with_forwards}
use Rattle.split_rules.specs.Splittable.{IsSplittable}
use Rattle.split_rules.specs.Typing.{EntryIs, AreDueOn, Cuts, EntersWith}
use Rattle.split_rules.specs.TypedCode.{IsTypedOp}
use Rattle.split_rules.proofs.TypedSplit.{same_there}
use Rattle.token_laws.specs.Holders.{IsTokenSent, kept_on}
use Rattle.token_laws.specs.Numbers.{CodeHasNumbers, RowsHaveNumbers, EventHasNumbers}
use Rattle.token_laws.specs.Reached.{IsReached}
use Rattle.typed_steps.specs.Chains.{chain_due}
use Rattle.typed_steps.specs.Threads.{IsAt, IsCalling}
use Rattle.typed_steps.specs.Turns as turns
use Rattle.typed_steps.specs.Turns.{waiting_for}
use Rattle.typed_steps.specs.Views.{Split, View, entries_of, place_of, with_out}
use Rattle.typed_steps.proofs.Basics.{all_left}
use Rattle.typed_steps.proofs.CallsMade.{enters_bare}
use Rattle.typed_steps.proofs.HeldSteps.{holds_same, holds_told}
use Rattle.typed_steps.proofs.Holding.{host_within}
use Rattle.typed_steps.proofs.Transfers.{calm_calling, none_rides}
use Rattle.integrity.specs.Holding.{IsAmong, runs, lost, halted, first_of, OwnsWaiting}
use Rattle.integrity.specs.Holding.{AreLinked, StateIsOutside, FlightIsOutside, IsStanding, IsOutsideBut}
use Rattle.integrity.specs.Loose.{AreUnsentBelow, Loosens}
use Rattle.integrity.specs.Outside.{Threat, threat_of, PlaceIsOpen, ThreadIsOpen, EntryIsOpen}
use Rattle.integrity.specs.Standing.{threat_in, StandsBy, Goes, Stalls}
use Rattle.integrity.proofs.Among.{all_among}
use Rattle.integrity.proofs.Entering.{arrival_token, entered_host, Sends, silent, sends, operation_sends}
use Rattle.integrity.proofs.HeldTokens.{StandsThere, later_held}
use Rattle.integrity.proofs.HolderLaws.{turn_of, holder_turned}
use Rattle.integrity.proofs.HolderStays.{on_some, unsent_held}
use Rattle.integrity.proofs.LeftOut.{IsTrusting, all_run, left_out, holds_left}
use Rattle.integrity.proofs.OpenSteps.{any_each}
use Rattle.integrity.proofs.OpenWorlds.{state_fits}
use Rattle.integrity.proofs.OutsideEvents.{other_of}
use Rattle.integrity.proofs.OutsideLaws.{AreLaws}
use Rattle.integrity.proofs.StallMoves.{TellsOne, tells, top_stands, holder_sends}
use Rattle.integrity.proofs.StandsOn.{halted_before, known_in}
use Rattle.integrity.proofs.TellMoves.{Telling, telling, sent_is, silent_never, was, me_is, standing_each}
use Rattle.integrity.proofs.TightKept.{tokens_known}
use Rattle.integrity.proofs.TightMoves.{all_as, outside_as, states_change, waits_apart}
use Rattle.integrity.proofs.TurnMoves.{request_top}

-- ---- the host of an entry is trusted for all that is due there

module _ (split : Split) (on : HostId) (position : Position) (need : ℕ) where
  trusted_found : (number : ℕ) (there : Option Entry) → slice_get split.code.entries (suc number) ≡ there →
      IsSomeAnd there (λ entry. entry.host ≡ on) → EntryIs split.table.entries (suc number) position need →
      AreDueOn split.planned on position.due
  trusted_found number None found on_host is = absurd on_host
  trusted_found number (Some there) found on_host is =
      let typed = split.typed.entries number there found in
      let one : Entrance = record { position = typed.position; need = there.need } in
      let other : Entrance = record { position = position; need = need } in
      let same : one ≡ other = same_there split.table.entries (suc number) one other typed.is is in
      subst (λ host. AreDueOn split.planned host position.due) on_host
      (subst (λ (e : Entrance). AreDueOn split.planned there.host e.position.due) same typed.trusted)

  trusted_at : (number : ℕ) → (number ≡ 0 → ⊥) →
      IsSomeAnd (slice_get split.code.entries number) (λ entry. entry.host ≡ on) →
      EntryIs split.table.entries number position need → AreDueOn split.planned on position.due
  trusted_at zero apart on_host is = absurd (apart refl)
  trusted_at (suc number) apart on_host is =
      trusted_found number (slice_get split.code.entries (suc number)) refl on_host is

  entry_trusted : (entry : EntryId) → IsEntryOn split.code on entry →
      EntryIs split.table.entries entry.0 position need → AreDueOn split.planned on position.due
  entry_trusted entry is_entry is =
      let make : ℕ → EntryId = λ n. record { 0 = n } in
      trusted_at entry.0 (λ same. is_entry.0 (ap make same)) is_entry.1 is

-- ---- what the turn leaves

-- What a turn leaves that hands a host a token: the host is trusted for all that is due, and all that is still to be
-- sent goes to it.
record HandsToken (split : Split) (c : Configuration) (view : View) (host : HostId) (old : HostState)
    (thread : ThreadShape) (to : HostId) (m : Message) (outcome : Outcome) : Type 0 where
  new : HostState
  is : with_message new to m ≡ outcome
  me : new.me ≡ old.me
  rests : new.running ≡ None
  rows : new.rows ≡ old.rows
  variables : new.variables ≡ old.variables
  frames : new.frames ≡ old.frames
  entries : new.entries ≡ old.entries
  halted : new.halted ≡ old.halted
  waiting : All (λ w. ThreadIsOpen (threat_in split) host w.thread) old.waiting →
      All (λ w. ThreadIsOpen (threat_in split) host w.thread) new.waiting
  due : AreDueOn split.planned to (place_of split host thread.at).due
  gone : AllByRecursion (λ forward. forward.host ≡ to) view.out
  count : view.naming.count ≡ length c.calls

-- what is known of a thread that goes to a host
record Called (split : Split) (c : Configuration) (view : View) (on : HostId) (here : Position) : Type 0 where
  due : AreDueOn split.planned on here.due
  gone : AllByRecursion (λ forward. forward.host ≡ on) here.forwards
  count : view.naming.count ≡ length c.calls

module _ (split : Split) (c : Configuration) (view : View) (host : HostId) (thread : ThreadShape)
    (at : IsAt split c view host thread) (on : HostId) (entry : EntryId) (is_entry : IsEntryOn split.code on entry)
  where
    called : (riders : List VarId) (calling : Calling) → (place_of split host thread.at).calling ≡ calling →
        EntersWith split.planned split.table.entries (place_of split host thread.at) calling entry.0 riders on →
        Called split c view on (place_of split host thread.at)
    called riders (entering (trees.call heading site method arguments into rest)) is law =
        let here = place_of split host thread.at in
        record {
          due = entry_trusted split on (calm here.level here.due) _ entry is_entry law.4;
          gone = law.3.1;
          count = (subst (IsCalling split c view.naming view.values view.sender host thread.frame thread.new_frame
              at.call here.due) is at.calling).0;
        }
    called riders _ is law = absurd law

module _ (split : Split) (c : Configuration) (view : View) (host : HostId) (thread : ThreadShape)
    (world after : WorldShape) (to : HostId) (m : Message) (t : Telling split c view host thread world after to m)
    (trusting : IsTrusting split) (token : Token) (has : token_in m ≡ Some token) where
  abbrev bare : HostState
  bare = with_running t.step.state None

  -- ---- the token

  no_token : (said : Message) → said ≡ m → token_in said ≡ None → ⊥
  no_token said same none =
      absurd (let never : None ≡ Some token = sym none ∙ ap token_in same ∙ has in cc)

  -- it is that of the first entry
  sent_top : turns.Turned split c view world host t.step.state thread t.step.outcome →
      top_token (entries_of view.chain) ≡ Some token
  sent_top (turns.runs_on g) = absurd (silent_never split c view host thread world after to m t _ g.is)
  sent_top (turns.steps now does g) = absurd (silent_never split c view host thread world after to m t _ g.is)
  sent_top (turns.asks a) =
      let same = sent_is split c view host thread world after to m t _ a.to a.asking a.is in
      let w = waiting_for t.step.state thread.at a.next a.awaited a.to in
      sym (request_top split c view host a.to w a.asking a.request)
      ∙ ap (λ (o : Option Token). first_of o a.next.held) (ap token_in same.1 ∙ has)
  sent_top (turns.gives g) =
      let same = sent_is split c view host thread world after to m t _ _ _ g.is in
      absurd (no_token _ same.1 refl)
  sent_top (turns.hands h) =
      let same = sent_is split c view host thread world after to m t _ _ _ h.is in
      h.top ∙ sym (arrival_token h.said h.arrival h.arrives) ∙ ap token_in same.1 ∙ has
  sent_top (turns.returns r) =
      let same = sent_is split c view host thread world after to m t _ _ _ r.is in
      r.top ∙ ap token_in same.1 ∙ has
  sent_top (turns.ends e) = absurd (silent_never split c view host thread world after to m t _ e.is)

  -- ---- the instruction

  -- the label of the host that gets the token
  open_to : (P : Label → Type 0) → (label : Label) → Any (λ other. other ≡ label) split.exposure.bad → P label →
      Any P split.exposure.bad
  open_to P label among holds =
      any_each (λ other. other ≡ label) P split.exposure.bad (λ other same. subst P (sym same) holds) among

  -- what is due behind an ask was due before it
  behind_ask : (entry : EntryId) → AreDueOn split.planned to (place_of split host thread.at).due →
      Cuts split.planned split.table.entries (place_of split host thread.at) entry.0
      (place_of split host (suc thread.at)) → (place_of split host thread.at).forwards ≡ [] →
      PlaceIsOpen (threat_in split) host (thread.at + 1)
  behind_ask entry due law none =
      let bad = t.lawful.bad to t.bad in
      let next = place_of split host (suc thread.at) in
      let may =
      all_left (λ item. MayRun split.planned bad.label (statement_due item)) next.due law.behind
      (subst (MayRunAll split.planned bad.label) law.due
      (all_run split trusting to bad.label bad.of_host (place_of split host thread.at).due due)) in
      let same : suc thread.at ≡ thread.at + 1 = omega arith in
      subst (PlaceIsOpen (threat_in split) host) same
      (open_to (λ label. IsOpenTo split.planned label next) bad.label bad.among
      (subst (IsOpenTo split.planned bad.label)
      (sym (law.goes ∙ ap (with_forwards (calm (under entry.0) next.due)) none))
      (record { due = may; sent = tt; calls = tt; params = tt })))

  -- the thread ends, and its token goes to the host
  ended : (on : HostId) (said : Message) → with_message bare on said ≡ t.step.outcome →
      Called split c view on (place_of split host thread.at) →
      HandsToken split c view host t.step.state thread to m t.step.outcome
  ended on said is law =
      let here = place_of split host thread.at in
      let same = sent_is split c view host thread world after to m t bare on said is in
      record {
        new = bare;
        is = subst (λ h. with_message bare h m ≡ t.step.outcome) same.0
            (subst (λ x. with_message bare on x ≡ t.step.outcome) same.1 is);
        me = refl;
        rests = refl;
        rows = refl;
        variables = refl;
        frames = refl;
        entries = refl;
        halted = refl;
        waiting = λ all. all;
        due = subst (λ h. AreDueOn split.planned h here.due) same.0 law.due;
        gone = subst (λ h. AllByRecursion (λ (forward : Forward). forward.host ≡ h) view.out) same.0
            (subst (AllByRecursion (λ (forward : Forward). forward.host ≡ on)) t.stands.does.1.forwards law.gone);
        count = law.count;
      }

  by_operation : (count : ℕ) (what : Op) (passes : Bool) → IsTypedOp split.planned split.table host thread.at what →
      OperationFits split.code host count what → entered_host what ≡ Some to →
      after_operation split.code bare thread what passes ≡ t.step.outcome → thread.held ≡ Some token →
      HandsToken split c view host t.step.state thread to m t.step.outcome
  by_operation count (op.Ask entry on) passes law fits enters is held =
      let here = place_of split host thread.at in
      let at = t.stands.does.1 in
      let new : HostId → HostState =
      λ h. after_asking bare thread.at (with_token None (after_step thread)) token_of_entry h in
      let said = message.Sync (next_request bare thread.at) thread.frame entry token in
      let one : with_message (new on) on said ≡ t.step.outcome =
      sym (ap (after_ask bare thread entry on) held) ∙ is in
      let same = sent_is split c view host thread world after to m t (new on) on said one in
      let due = subst (λ h. AreDueOn split.planned h here.due) same.0 law.1 in
      record {
        new = new to;
        is = subst (λ h. with_message (new h) h m ≡ t.step.outcome) same.0
            (subst (λ x. with_message (new on) on x ≡ t.step.outcome) same.1 one);
        me = refl;
        rests = refl;
        rows = refl;
        variables = refl;
        frames = refl;
        entries = refl;
        halted = refl;
        waiting = λ all.
            All-push (λ w. ThreadIsOpen (threat_in split) host w.thread) t.step.state.waiting _ all
            (behind_ask entry due law.0 law.2);
        due = due;
        gone = (none_rides to view.out (sym at.forwards ∙ law.2)).1;
        count = (calm_calling split c view host thread at law.0.idle.1).0;
      }
  by_operation count (op.Go entry on) passes law fits enters is held =
      let here = place_of split host thread.at in
      let at = t.stands.does.1 in
      let one : with_message bare on (message.Rgoto thread.frame entry token) ≡ t.step.outcome =
      sym (ap (after_go bare thread thread.frame entry on) held) ∙ is in
      ended on (message.Rgoto thread.frame entry token) one (record {
        due = entry_trusted split on here _ entry fits.0 law.1;
        gone = (none_rides on here.forwards (ap (λ (p : Position). p.forwards) law.0)).1;
        count = (calm_calling split c view host thread at (ap (λ (p : Position). p.calling) law.0)).0;
      })
  by_operation count (op.Call entry on) passes law fits enters is held =
      let some : Some on ≡ Some to = enters in
      let same : on ≡ to = cc in
      let apart : on.0 ≡ bare.me.0 → ⊥ =
      λ own. bad_differs world to host t.step.state t.bad t.step.obeys
      (sym same ∙ same_id on host (own ∙ ap (λ (h : HostId). h.0) (me_is split c view host thread world after to m t)))
      in
      let near = after_own_call bare thread (entry_at split.code entry) in
      let far = after_go bare thread thread.new_frame entry on thread.held in
      let one : with_message bare on (message.Rgoto thread.new_frame entry token) ≡ t.step.outcome =
      sym (ap (after_go bare thread thread.new_frame entry on) held)
      ∙ sym (ap (λ (b : Bool). if b then near else far) (ne_eqb on.0 bare.me.0 apart)) ∙ is in
      ended on (message.Rgoto thread.new_frame entry token) one
      (called split c view host thread t.stands.does.1 on entry fits.0 [] (place_of split host thread.at).calling refl
      (enters_bare split (place_of split host thread.at) (place_of split host thread.at).calling entry.0 on law))
  by_operation count (op.GoWith entry on riders) passes law fits enters is held =
      let here = place_of split host thread.at in
      let said = message.RgotoWith thread.frame entry token (riders_of bare thread.frame riders) in
      ended on said (sym (ap (after_go_with bare thread thread.frame entry on riders) held) ∙ is) (record {
        due = entry_trusted split on (calm here.level here.due) _ entry fits.0 law.2;
        gone = law.1.1;
        count = (calm_calling split c view host thread t.stands.does.1 law.0.1).0;
      })
  by_operation count (op.CallWith entry on riders) passes law fits enters is held =
      let said = message.RgotoWith thread.new_frame entry token (riders_of bare thread.new_frame riders) in
      ended on said (sym (ap (after_go_with bare thread thread.new_frame entry on riders) held) ∙ is)
      (called split c view host thread t.stands.does.1 on entry fits.0 riders (place_of split host thread.at).calling
      refl law)
  by_operation count _ passes law fits enters is held = (let never : None ≡ Some to = enters in absurd (cc))

  -- the instruction enters the host, which is not that of the token
  enters_there : (what : Op) → top_token (entries_of view.chain) ≡ Some token → Sends what t.step.outcome →
      entered_host what ≡ Some to
  enters_there what top (silent new is) = absurd (silent_never split c view host thread world after to m t new is)
  enters_there what top (sends new other said is goes) =
      let same = sent_is split c view host thread world after to m t new other said is in
      elim (goes token (ap token_in same.1 ∙ has)) [
        | inl enters ↦ enters ∙ ap (λ (h : HostId). Some h) same.0
        | inr own ↦
            absurd (top_stands world (entries_of view.chain) token t.stands.tight.standing top
            (inr (ap (misbehaves world) (own ∙ same.0) ∙ t.bad)))
      ]

  by_found : (found : Option Instr) → instruction_at split.code host thread.at ≡ found →
      IsRunning split.code bare thread found t.step.outcome → top_token (entries_of view.chain) ≡ Some token →
      HandsToken split c view host t.step.state thread to m t.step.outcome
  by_found None found is top = absurd (silent_never split c view host thread world after to m t _ is)
  by_found (Some there) found is top =
      let within = host_within split.code world host t.step.state t.lawful.fits.count t.step.obeys in
      by_operation _ there.op is.0 (split.typed.instructions host thread.at there found).1
      ((split.sound.parts host within).instructions thread.at there found).operation
      (enters_there there.op top
      (subst (Sends there.op) is.2 (operation_sends split.code bare thread there.op is.0))) is.2
      (t.stands.does.1.held ∙ top)

  hands_over : t.step.state.running ≡ Some thread →
      turns.Turned split c view world host t.step.state thread t.step.outcome →
      HandsToken split c view host t.step.state thread to m t.step.outcome
  hands_over running turned =
      by_found (instruction_at split.code host thread.at) refl
      (subst (λ me. IsRunning split.code bare thread (instruction_at split.code me thread.at) t.step.outcome)
      (me_is split c view host thread world after to m t)
      (subst (λ o. IsTurnOf split.code t.step.state o t.step.outcome) running t.step.turns)) (sent_top turned)

-- ---- the world after it

module _ (split : Split) (c : Configuration) (view : View) (host : HostId) (thread : ThreadShape)
    (world after : WorldShape) (to : HostId) (m : Message) (t : Telling split c view host thread world after to m)
    (hands : HandsToken split c view host t.step.state thread to m t.step.outcome) where
  abbrev chain : List StackEntry
  chain = entries_of view.chain

  moved : Moved world host hands.new world.flying after
  moved = (moved_told world host t.step.outcome t.step.state hands.new to m (label_of_turn split.code t.step.state)
      t.label after t.step.obeys t.bad t.labels hands.is t.step.leaves).moved

  stands_there : (e : StackEntry) → IsAmong chain e → StandsThere after e
  stands_there e among =
      on_some world after host e.token.host t.step.state hands.new t.step.obeys moved.hosts
      (λ state. IsAmong state.entries e)
      (standing_each split c view host thread world after to m t e among).there
      (λ same has. subst (λ list. IsAmong list e) (sym hands.entries) has)

  -- the tokens of the entries below the first are kept with entries
  unsent_below : (list : List StackEntry) → AreLinked list → AllByRecursion (StandsThere after) list →
      ((e : StackEntry) → IsAmong list e → IsStanding world e) → AreUnsentBelow after list
  unsent_below [] linked stands before = tt
  unsent_below (first ∷ below) linked stands before =
      all_among (λ e. ¬ IsTokenSent after e.token) below (λ e among.
      let held = later_held after first below among.0 e linked stands among.1 in
      unsent_held split.code world after (tokens_known (threat_in split) world t.lawful) t.fits t.account e
      (before e (suc among.0, among.1)) (kept_on held.0 held.1, held.2))

  -- ---- all else is outside

  waits_open : All (λ w. ThreadIsOpen (threat_in split) host w.thread) t.step.state.waiting
  waits_open =
      waits_apart (threat_in split) chain host thread t.step.state (me_is split c view host thread world after to m t)
      (was split c view host thread world after to m t)

  own_outside : StateIsOutside (threat_in split) chain lost hands.new
  own_outside =
      let Waits : HostId → WaitingShape → Type 0 =
      λ me w. OwnsWaiting lost me w ⊎ ThreadIsOpen (threat_in split) me w.thread in
      let me : hands.new.me ≡ host = hands.me ∙ me_is split c view host thread world after to m t in
      record {
        running = inr (subst (λ o. IfSome o (ThreadIsOpen (threat_in split) hands.new.me)) (sym hands.rests) tt);
        waiting = subst (λ h. All (Waits h) hands.new.waiting) (sym me)
            (all_as (λ w. ThreadIsOpen (threat_in split) host w.thread) (Waits host) hands.new.waiting
            (λ w may. inr may) (hands.waiting waits_open));
        entries = subst (All (λ e. IsAmong chain e ⊎ EntryIsOpen (threat_in split) e.entry)) (sym hands.entries)
            (was split c view host thread world after to m t).entries;
      }

  other_outside : (other : HostId) (state : HostState) → other ≢ host → state_at world other ≡ Some state →
      StateIsOutside (threat_in split) chain (runs host thread) state →
      StateIsOutside (threat_in split) chain lost state
  other_outside other state apart obeys before =
      let fits = state_fits (threat_in split) world other state t.lawful.fits obeys in
      outside_as (threat_in split) chain chain (runs host thread) lost state fits.fits.entries
      (λ own. absurd (apart (sym fits.me ∙ own))) (λ one own. own) (λ e own among. among) before

  outside : IsOutsideBut (threat_in split) chain lost after
  outside = record {
    states = λ other.
        states_change (StateIsOutside (threat_in split) chain (runs host thread))
        (StateIsOutside (threat_in split) chain lost) world after host t.step.state hands.new t.step.obeys moved.hosts
        t.stands.tight.outside.states own_outside other_outside other (state_at after other) refl;
    flying = λ from other.
        subst (λ (f : Flying). All (FlightIsOutside (threat_in split) lost from other) (f from other))
        (sym moved.flying)
        (all_as (FlightIsOutside (threat_in split) (runs host thread) from other)
        (FlightIsOutside (threat_in split) lost from other) (world.flying from other)
        (λ flight either. inr (other_of either (λ never. never))) (t.stands.tight.outside.flying from other));
  }

  -- ---- what was due is left out

  loosened : IsTrusting split → Loosens split c after
  loosened trusting =
      let bad = t.lawful.bad to t.bad in
      let at = t.stands.does.1 in
      let due = (place_of split host thread.at).due in
      let seen = with_out view [] in
      let told =
      holds_told split c view world to t.stands.holds (λ state there. bad_differs world to to state t.bad there refl)
      hands.gone in
      let holds =
      holds_same split c seen world after host t.step.state hands.new world.flying told t.step.obeys moved hands.rows
      hands.variables hands.frames in
      let out =
      left_out split trusting bad.label bad.among seen after c at.call due (chain_due split view.chain) at.left
      holds.result (all_run split trusting to bad.label bad.of_host due hands.due) in
      let there = all_among (StandsThere after) chain stands_there in
      record {
        now = out.now;
        more = out.more;
        altered = out.altered;
        view = record seen { keeper = out.keeper };
        stands = record {
          loose = record {
            linked = t.stands.tight.linked;
            there = there;
            unsent = unsent_below chain t.stands.tight.linked there
                (standing_each split c view host thread world after to m t);
            outside = outside;
          };
          chain = t.stands.does.0;
          holds = holds_left split c seen after (chain_due split view.chain) holds out;
          gives_up = record {
            none_out = refl;
            count = hands.count ∙ ap length (sym out.calls);
            left = out.left;
          };
          goes_on = λ has.
              let never : runs host thread ≡ halted =
              t.stands.halts (halted_before world after split.code.root host t.step.state hands.new t.step.obeys
              moved.hosts hands.halted has) in
              absurd (cc);
        };
      }

-- ---- the law

-- what is known of the code of a split program
trusting_in : AreLaws → (split : Split) (placed : PlacedProgram) (bad : ℕ) → threat_in split
    ≡ threat_of placed split.table bad → IsSplittable placed → IsAllowed placed → IsTrusting split
trusting_in laws split placed bad same splittable allowed =
    let own = laws.labels placed splittable in
    record {
      known = known_in laws split placed bad same splittable allowed;
      needs = ap (λ (t : Threat). t.exposure.needs) same
          ∙ sym (ap (λ (t : Threat). t.planned.needs.need) same);
      trust = subst (λ (t : Threat). (host : HostId) (label : Label) (statement : StmtId) →
          label_of_host t.code host ≡ Some label → Decides (is_trusted_for t.planned host statement)
          (IsTrustedBy label (slice_index t.planned.needs.need statement.0))) (sym same) own.of_trust;
    }

-- the turn hands a misbehaving host a token
pub holder_loosens : AreLaws → (split : Split) (placed : PlacedProgram) (bad : ℕ) (store : List (List ℤ))
    (events : List Event) (world after : WorldShape)
    (host : HostId) (thread : ThreadShape) (c : Configuration) (view : View) (to : HostId) (m : Message)
    (token : Token) → threat_in split ≡ threat_of placed split.table bad → IsSplittable placed → IsAllowed placed →
    IsReached split.code placed.hosts.hosts bad store events world → CodeHasNumbers split.code → RowsHaveNumbers store →
    All EventHasNumbers events → IsTurnStep split.code world host after → misbehaves world to ≡ true →
    after.sent ≡ world.sent ++ (host, to, m) ∷ [] → token_in m ≡ Some token →
    StandsBy split c view (runs host thread) world → Loosens split c after
holder_loosens laws split placed bad store events world after host thread c view to m token same
    splittable allowed reach code_numbers store_numbers said step misbehaving told has stands =
    let exposed = ap (λ (t : Threat). t.exposure.bad) same in
    let trusting = trusting_in laws split placed bad same splittable allowed in
    let turn =
    turn_of split placed.hosts.hosts bad store events world after host thread c view exposed reach code_numbers
    store_numbers
    said step stands in
    let t = telling split c view host thread world after to m step turn stands misbehaving told in
    loosened split c view host thread world after to m t
    (hands_over split c view host thread world after to m t trusting token has turn.running turn.turned) trusting

-- whatever the turn hands over
pub holder_goes : AreLaws → (split : Split) (placed : PlacedProgram) (bad : ℕ) (store : List (List ℤ))
    (events : List Event) (world after : WorldShape)
    (host : HostId) (thread : ThreadShape) (c : Configuration) (view : View) →
    threat_in split ≡ threat_of placed split.table bad → IsSplittable placed →
    IsAllowed placed → IsWellHeld placed →
    IsReached split.code placed.hosts.hosts bad store events world → CodeHasNumbers split.code → RowsHaveNumbers store →
    All EventHasNumbers events → IsTurnStep split.code world host after →
    StandsBy split c view (runs host thread) world →
    Goes split c after ⊎ (Stalls split c host after ⊎ Loosens split c after)
holder_goes laws split placed bad store events world after host thread c view same splittable allowed
    held reach code_numbers store_numbers said step stands =
    let exposed = ap (λ (t : Threat). t.exposure.bad) same in
    let turn =
    turn_of split placed.hosts.hosts bad store events world after host thread c view exposed reach code_numbers
    store_numbers
    said step stands in
    elim (tells split c view host thread world after step turn turn.turned) [
      | inl quiet ↦
          inl (holder_turned split placed.hosts.hosts bad store events world after host thread c view exposed reach
          code_numbers store_numbers said step quiet stands)
      | inr one ↦ inr (by_token one (token_in one.m) refl)
    ]
  where
    by_token : (one : TellsOne host world after) (token : Option Token) → token_in one.m ≡ token →
        Stalls split c host after ⊎ Loosens split c after
    by_token one None none =
        inl (holder_sends split placed bad store events world after host thread c view one.to one.m
        same allowed held reach code_numbers store_numbers said step one.bad one.told none stands)
    by_token one (Some token) some =
        inr (holder_loosens laws split placed bad store events world after host thread c view one.to
        one.m token same splittable allowed reach code_numbers store_numbers said step one.bad one.told some stands)
