-- A turn of who holds the token, by the instruction that it runs, where no call is made.
use Rattle.std.proofs.Common.{◌≡◌, ◌≢◌, ◌∙◌, ℕ, suc, inl, inr, Bool, true, false, List, [], ◌∷◌, ◌++◌, Option}
use Rattle.std.proofs.Common.{Some, None, refl, ap, sym, subst, arith, ◌+◌, ◌<◌, length}
use Rattle.std.specs.Prelude.{pos, ◌==◌, ◌↔◌, if◌then◌else◌, IsTrue, IsSomeAnd}
use Rattle.std.specs.Ordering.{int_eq}
use Rattle.std.proofs.lemmas.Bool.Decides.{eqb_tells}
use Rattle.js_base.specs.declared.ids.HostId.{HostId}
use Rattle.js_base.specs.declared.ids.FieldId.{FieldId}
use Rattle.js_base.specs.declared.ids.FrameId.{FrameId}
use Rattle.js_base.specs.declared.ids.VarId.{VarId}
use Rattle.js_base.specs.declared.ids.EntryId.{EntryId}
use Rattle.jif_tree.specs.SourceRun.{Configuration}
use Rattle.jif_tree.specs.Store.{element_at, row_of}
use Rattle.jif_tree.specs.Trees.{BlockTree}
use Rattle.capability.specs.declared.token.Token.{Token}
use Rattle.ics_stack.specs.Stack.{top_token}
use Rattle.host_code.specs.declared.code.Entry.{Entry}
use Rattle.host_code.specs.declared.code_expr.Node.{Node}
use Rattle.host_code.specs.declared.instruction.Op.TheVariants as op
use Rattle.host_code.specs.declared.message.Message.{Message}
use Rattle.host_code.specs.declared.message.Message.TheVariants as message
use Rattle.host_code.specs.Code.{CodeFieldShape, field_at, entry_at}
use Rattle.host_code.specs.Sound.{IsField, IsEntryOn}
use Rattle.host_code.specs.Thread.{ThreadShape}
use Rattle.host_code.specs.Thread.Awaited.{value_of_field, acknowledgement, token_of_entry}
use Rattle.host_core.specs.Host.{HostState, without_message, with_message, with_running, with_row_written}
use Rattle.host_core.specs.Host.{with_variable_set, after_pop, after_push, after_step, after_clearing, with_temporary}
use Rattle.host_core.specs.Host.{with_token, with_one_ignored, thread_at, new_token, value_in_thread, next_request}
use Rattle.host_core.specs.Host.{after_asking}
use Rattle.host_core.specs.Turn.{with_thread, after_read, after_put, after_own_push, after_ask, after_go, after_go_with}
use Rattle.host_core.specs.Turn.{after_back, after_branch, riders_of, PassesWith}
use Rattle.entry_check.specs.declared.ask.Ask.TheVariants as ask
use Rattle.entry_check.specs.Checks.{May, MayRide}
use Rattle.split_rules.specs.Asking.{IsGranted, IfElsewhere}
use Rattle.split_rules.specs.Pace as pace_rules
use Rattle.split_rules.specs.Handing.{arrival_in}
use Rattle.split_rules.specs.Pace.{IsPacedOp, EntersLower, calls_at}
use Rattle.split_rules.specs.Positions.{Position, FieldRead, Calling, reads_due, no_call, arguing, entering}
use Rattle.split_rules.specs.Positions.{statement_due}
use Rattle.split_rules.specs.Typing as typing
use Rattle.split_rules.specs.Typing.{Cuts}
use Rattle.split_rules.specs.TypedCode.{IsTypedOp}
use Rattle.net_world.specs.World.{WorldShape}
use Rattle.net_world.proofs.Present.{same_id}
use Rattle.typed_steps.proofs.Alike.{alike_by, may_read, row_read}
use Rattle.token_laws.proofs.Riding.{names_ride}
use Rattle.typed_steps.specs.Views.{Split, View, Link, entries_of, place_of, with_chain, with_out}
use Rattle.typed_steps.specs.Chains.{IsLinked}
use Rattle.typed_steps.specs.Threads.{IsAt, IsCalling}
use Rattle.typed_steps.specs.Variables.{AreSent, HasWhatIsOwed}
use Rattle.typed_steps.specs.Requests.{FieldIsOn}
use Rattle.typed_steps.specs.Weights.{Paced, STEP, weight_at}
use Rattle.typed_steps.proofs.Instructions.{Agrees, after_setting, read_at, let_at, put_at, send_at}
use Rattle.typed_steps.proofs.Transfers.{calm_calling, push_at, pushed_fits, HandsOver, go_at, go_with_at, rides_out}
use Rattle.typed_steps.proofs.Transfers.{back_at, branch_at}
use Rattle.typed_steps.proofs.Rows.{row_there}
use Rattle.typed_steps.proofs.Holding.{holder_agrees, sent_set, sent_out}
use Rattle.typed_steps.proofs.HeldSteps.{holds_same, holds_now, holds_chain, holds_written, holds_set}
use Rattle.typed_steps.proofs.Pops.{pushed_chain}
use Rattle.typed_steps.proofs.Fuel.{back_fuel, falls, falls_with_step, falls_at_step, falls_with_entry}
use Rattle.typed_steps.proofs.Fuel.{field_there, none_called}
use Rattle.typed_steps.specs.Turns.{IsActing, Turned, stays, grows, runs_on, steps, asks, hands, returns, ends}
use Rattle.host_core.specs.Host.{Outcome}
use Rattle.typed_steps.proofs.Fuel.{some_chain, handed}
use Rattle.net_world.specs.World.{state_at}
use Rattle.typed_steps.proofs.HeldSteps.{kept}

-- a field of the code, here or elsewhere
owned : (split : Split) (field : FieldId) (there : CodeFieldShape) → field_at split.code field ≡ Some there →
    (host : HostId) → there.host.0 ≡ host.0 → FieldIsOn split.code field host
owned split field there is host same = record { there = there; is = is; on_host = same_id there.host host same }

granted_there : (split : Split) (me : HostId) (field : FieldId) (there : CodeFieldShape) (holds : HostId → Type 0) →
    field_at split.code field ≡ Some there → IfElsewhere split.code me field holds → there.host.0 ≢ me.0 →
    holds there.host
granted_there split me field there holds is granted apart =
    let so = subst (λ (o : Option CodeFieldShape). IsSomeAnd o (λ one. one.host ≢ me → holds one.host)) is granted in
    so (λ same. apart (ap (λ (h : HostId). h.0) same))

-- nothing is to be sent
pub sends_nothing : (split : Split) (view : View) (state : HostState) (host : HostId) → view.out ≡ [] →
    HasWhatIsOwed split view state host
sends_nothing split view state host none =
    subst (AreSent split (view.values view.sender) (state.variables (view.naming.frame view.sender)) host) (sym none) tt

either_thread : (b : Bool) (state : HostState) (first other : ThreadShape) →
    with_thread state (if b then first else other) ≡
    (if b then with_thread state first else with_thread state other)
either_thread true state first other = refl
either_thread false state first other = refl

either_less : (split : Split) (chain : List Link) (host : HostId) (most : ℕ) (b : Bool) (first other : ThreadShape) →
    weight_at split chain host first.at < most → weight_at split chain host other.at < most →
    weight_at split chain host (if b then first else other).at < most
either_less split chain host most true first other one two = one
either_less split chain host most false first other one two = two

-- the entry that is pushed for a call
abbrev pub pushing : HostState → ThreadShape → EntryId → Token → ℕ → Link
pushing old thread entry token call = record {
  entry = record {
    token = new_token (with_running old None) entry thread.frame;
    entry = entry;
    frame = thread.frame;
    kept = token;
  };
  call = call;
}

module _ (split : Split) (c : Configuration) (view : View) (world : WorldShape) (host : HostId) (old : HostState)
    (thread : ThreadShape) (t : IsActing split c view world host old thread) where
  -- ---- what the host knows

  -- it has the variables that it reads
  pub knows : thread.frame ≡ view.naming.frame t.at.call → Agrees split c host t.at.call (old.variables thread.frame)
  knows frame =
      subst (λ f. Agrees split c host t.at.call (old.variables f)) (sym frame)
      (holder_agrees split c view world host old t.at.call t.holds t.there t.numbers t.sent t.at.made)

  -- its chain has an entry
  pub some_entry : 0 < length view.chain
  some_entry = some_chain split view.naming view.chain t.is_chain

  -- where something is read the thread is in the frame of its call
  reading_frame : (calling : Calling) (statement : BlockTree) (reads behind : List FieldRead) (own : FieldRead) →
      IsCalling split c view.naming view.values view.sender host thread.frame thread.new_frame t.at.call
      (place_of split host thread.at).due calling →
      reads_due calling statement ≡ reads ++ own ∷ behind → thread.frame ≡ view.naming.frame t.at.call
  reading_frame no_call statement reads behind own is due = is.1
  reading_frame (arguing called set left) statement reads behind own is due = is.frame_is
  reading_frame (entering called) statement reads behind own is due = absurd (none_before reads due)
    where
      none_before : (reads : List FieldRead) → [] ≡ reads ++ own ∷ behind → ⊥
      none_before [] same = cc
      none_before (first ∷ reads) same = cc

  -- the thread goes on where fields, variables and stacks stay
  goes_on_same : (outcome : Outcome) (next : ThreadShape) → with_thread (with_running old None) next ≡ outcome →
      IsAt split c view host next → (Paced split →
      weight_at split view.chain host next.at < weight_at split view.chain host thread.at + 0) →
      Turned split c view world host old thread outcome
  goes_on_same outcome next is at less = runs_on (record {
    seen = view;
    state = with_running old None;
    next = next;
    is = is;
    steady = record { me = refl; ignored = refl; halted = refl; waiting = refl };
    grown = stays refl refl;
    is_chain = t.is_chain;
    at = at;
    sent = t.sent;
    keeps = kept split c view world host (with_running (with_running old None) (Some next))
        (λ after moved. holds_same split c view world after host old
        (with_running (with_running old None) (Some next)) after.flying t.holds t.there moved refl refl refl);
    pace = less;
  })

  -- ---- reads

  pub read_found : (outcome : Outcome) (field : FieldId) (index : List Node) →
      IsTypedOp split.planned split.table host thread.at (op.Read field index) →
      IsGranted split.code host (op.Read field index) → IsField split.code field →
      (Paced split → IsPacedOp split.code split.pace host thread.at (op.Read field index)) →
      (found : Option CodeFieldShape) → field_at split.code field ≡ found →
      after_read (with_running old None) thread field index found ≡ outcome →
      Turned split c view world host old thread outcome
  read_found outcome field index law granted within pace None found is =
      absurd (field_there split field within found)
  read_found outcome field index law granted within pace (Some there) found is =
      let bare = with_running old None in
      let me = t.fits.me in
      let place = value_in_thread bare thread index in
      let own = element_at (row_of old.rows field.0) place in
      let frame = reading_frame (place_of split host thread.at).calling (statement_due law.first)
      (place_of split host thread.at).reads law.behind _ t.at.calling law.due_next in
      let at = read_at split c view host thread (old.variables thread.frame) t.at (knows frame) field index law in
      let near = with_thread bare (with_temporary own (after_step thread)) in
      let far = with_message (after_asking bare thread.at (after_step thread) value_of_field there.host) there.host
      (message.Get (next_request bare thread.at) field place) in
      elim (eqb_tells there.host.0 old.me.0) [
        | inl same ↦
            let here : there.host.0 ≡ host.0 = same.1 ∙ ap (λ (h : HostId). h.0) me in
            let row = row_there split world host old c.store field t.holds.fields t.there
            (owned split field there found host here) in
            let done : near ≡ outcome = sym (ap (λ (b : Bool). if b then near else far) same.0) ∙ is in
            goes_on_same outcome (with_temporary own (after_step thread)) done
            (at own (row_read split.exposure field (row_of old.rows field.0) (row_of c.store field.0) place row
            (t.numbers.elements field place))) (λ paced. (falls split host thread.at view.chain (pace paced)).1)
        | inr apart ↦
            let away : there.host.0 ≢ host.0 = λ same. apart.1 (same ∙ sym (ap (λ (h : HostId). h.0) me)) in
            let done : far ≡ outcome = sym (ap (λ (b : Bool). if b then near else far) apart.0) ∙ is in
            asks (record {
              next = after_step thread;
              awaited = value_of_field;
              to = there.host;
              asking = message.Get (next_request old thread.at) field place;
              is = done;
              away = away;
              request = (
                refl,
                refl,
                granted_there split host field there _ found granted away,
                owned split field there found there.host refl,
                at,
              );
              pace = λ paced. let less = falls split host thread.at view.chain (pace paced) in (less.0, less.2);
            })
      ]

  -- ---- assignments

  pub set_local : (outcome : Outcome) (x : VarId) (nodes : List Node) →
      IsTypedOp split.planned split.table host thread.at (op.Let x nodes) →
      (Paced split → IsPacedOp split.code split.pace host thread.at (op.Let x nodes)) →
      with_thread (with_variable_set (with_running old None) thread.frame x
      (value_in_thread (with_running old None) thread nodes)) (after_clearing thread) ≡ outcome →
      Turned split c view world host old thread outcome
  set_local outcome x nodes law pace is =
      let bare = with_running old None in
      let value = value_in_thread bare thread nodes in
      let frame = (calm_calling split c view host thread t.at law.3).1 in
      let sets = let_at split c view host thread (old.variables thread.frame) t.at (knows frame)
      (λ into result behind keeper pending. may_read split.exposure result _ _
      (alike_by split.exposure result _ _ _ (ap (λ f. old.variables f result) frame)
      (t.holds.result t.at.call into result behind old pending (ap (state_at world) keeper ∙ t.there)))
      (t.numbers.variables thread.frame result)) x nodes law in
      let now = sets.now in
      let seen = after_setting split view host sets.from sets.call x value in
      let state = with_variable_set bare (view.naming.frame sets.call) x value in
      let new = with_running state (Some (after_clearing thread)) in
      steps now sets.does (record {
        seen = seen;
        state = state;
        next = after_clearing thread;
        is = ap (λ f. with_thread (with_variable_set bare f x value) (after_clearing thread)) (sym sets.frame) ∙ is;
        steady = record { me = refl; ignored = refl; halted = refl; waiting = refl };
        grown = stays refl refl;
        is_chain = t.is_chain;
        at = sets.at;
        sent = sent_set split view.naming view.values old.variables view.out view.sender host sets.call x value
            sets.from (inl sets.none_out) t.sent;
        keeps = kept split now seen world host new
            (λ after moved. holds_set split c now view world after host old new after.flying sets.call x value sets.from
            t.many t.holds sets.none_out t.there moved refl refl refl sets.made sets.store sets.calls sets.plainly);
        pace = λ paced. (falls_at_step split host thread.at view.chain some_entry (pace paced)).1;
      })

  pub put_found : (outcome : Outcome) (field : FieldId) (index nodes : List Node) →
      IsTypedOp split.planned split.table host thread.at (op.Put field index nodes) →
      IsGranted split.code host (op.Put field index nodes) → IsField split.code field →
      (Paced split → IsPacedOp split.code split.pace host thread.at (op.Put field index nodes)) →
      (found : Option CodeFieldShape) → field_at split.code field ≡ found →
      after_put (with_running old None) thread field index nodes found ≡ outcome →
      Turned split c view world host old thread outcome
  put_found outcome field index nodes law granted within pace None found is =
      absurd (field_there split field within found)
  put_found outcome field index nodes law granted within pace (Some there) found is =
      let me = t.fits.me in
      let bare = with_running old None in
      let place = value_in_thread bare thread index in
      let value = value_in_thread bare thread nodes in
      let frame = (calm_calling split c view host thread t.at law.3).1 in
      let sets = put_at split c view host thread (old.variables thread.frame) t.at (knows frame) field index nodes law
      in
      let now = sets.now in
      let state = with_row_written bare field place value in
      let new = with_running state (Some (after_clearing thread)) in
      let near = with_thread state (after_clearing thread) in
      let far = with_message (after_asking bare thread.at (after_clearing thread) acknowledgement there.host) there.host
      (message.Set (next_request bare thread.at) field place value) in
      elim (eqb_tells there.host.0 old.me.0) [
        | inl same ↦
            let here : there.host.0 ≡ host.0 = same.1 ∙ ap (λ (h : HostId). h.0) me in
            let on = owned split field there found host here in
            steps now sets.does (record {
              seen = view;
              state = state;
              next = after_clearing thread;
              is = sym (ap (λ (b : Bool). if b then near else far) same.0) ∙ is;
              steady = record { me = refl; ignored = refl; halted = refl; waiting = refl };
              grown = stays refl refl;
              is_chain = t.is_chain;
              at = sets.at;
              sent = t.sent;
              keeps = kept split now view world host new
                  (λ after moved. holds_written split c now view world after host old new after.flying field place value
                  t.holds t.there moved on refl refl refl sets.store sets.calls sets.plainly);
              pace = λ paced. (falls_at_step split host thread.at view.chain some_entry (pace paced)).1;
            })
        | inr apart ↦
            let away : there.host.0 ≢ host.0 = λ same. apart.1 (same ∙ sym (ap (λ (h : HostId). h.0) me)) in
            let done : far ≡ outcome = sym (ap (λ (b : Bool). if b then near else far) apart.0) ∙ is in
            asks (record {
              next = after_clearing thread;
              awaited = acknowledgement;
              to = there.host;
              asking = message.Set (next_request old thread.at) field place value;
              is = done;
              away = away;
              request = (
                refl,
                refl,
                granted_there split host field there _ found granted away,
                owned split field there found there.host refl,
                sets,
              );
              pace = λ paced.
                  let less = falls_at_step split host thread.at view.chain some_entry (pace paced) in (less.0, less.2);
            })
      ]

  -- ---- forwards

  -- a variable of the call of which there is something to be sent, from its frame
  pub forwards : (outcome : Outcome) (frame : FrameId) (x : VarId) (to : HostId) →
      frame ≡ view.naming.frame view.sender → view.sender < view.naming.count →
      typing.Sends (place_of split host thread.at) x to (place_of split host (suc thread.at)) →
      IsGranted split.code host (op.Send x to) →
      (Paced split → pace_rules.Falls split.pace host thread.at (suc thread.at)) →
      with_message (after_asking (with_running old None) thread.at (after_step thread) acknowledgement to) to
      (message.Forward (next_request (with_running old None) thread.at) frame x (old.variables frame x)) ≡ outcome →
      Turned split c view world host old thread outcome
  forwards outcome frame x to frame_is within law granted pace is =
      let sends = send_at split c view host thread t.at x to law in
      let sent = sent_out split (view.values view.sender) (old.variables (view.naming.frame view.sender)) host view.out
      x to t.sent sends.is_out in
      asks (record {
        next = after_step thread;
        awaited = acknowledgement;
        to = to;
        asking = message.Forward (next_request old thread.at) frame x (old.variables frame x);
        is = is;
        away = sent.1;
        request = (
          refl,
          refl,
          granted,
          frame_is,
          alike_by split.exposure x _ _ _ (ap (λ f. old.variables f x) frame_is) sent.0,
          within,
          sends.plainly,
          sends.is_out,
          sends.at,
        );
        pace = λ paced. let less = falls split host thread.at view.chain (pace paced) in (less.0, less.2);
      })

  -- ---- branches

  pub branches : (outcome : Outcome) (guard : List Node) (target : ℕ) →
      IsTypedOp split.planned split.table host thread.at (op.Branch guard target) →
      (Paced split → IsPacedOp split.code split.pace host thread.at (op.Branch guard target)) →
      after_branch (with_running old None) thread guard target ≡ outcome →
      Turned split c view world host old thread outcome
  branches outcome guard target law pace is =
      let bare = with_running old None in
      let value = value_in_thread bare thread guard in
      let frame = (calm_calling split c view host thread t.at law.3).1 in
      let decides = branch_at split c view host thread (old.variables thread.frame) t.at (knows frame) guard target law
      in
      let now = decides.now in
      let aim : ThreadShape = record (after_clearing thread) { at = target } in
      let one = if int_eq value (pos 0) then aim else after_clearing thread in
      let new = with_running bare (Some one) in
      steps now decides.does (record {
        seen = view;
        state = bare;
        next = one;
        is = either_thread (int_eq value (pos 0)) bare aim (after_clearing thread) ∙ is;
        steady = record { me = refl; ignored = refl; halted = refl; waiting = refl };
        grown = stays refl refl;
        is_chain = t.is_chain;
        at = decides.at;
        sent = t.sent;
        keeps = kept split now view world host new
            (λ after moved. holds_now split c now view after
            (holds_same split c view world after host old new after.flying t.holds t.there moved refl refl refl)
            decides.store decides.calls decides.plainly);
        pace = λ paced. either_less split view.chain host (weight_at split view.chain host thread.at + STEP)
            (int_eq value (pos 0)) aim (after_clearing thread)
            (falls_with_step split host thread.at target view.chain some_entry (pace paced).1).1
            (falls_at_step split host thread.at view.chain some_entry (pace paced).0).1;
      })

  -- ---- pushes

  pub pushes : (outcome : Outcome) (entry : EntryId) →
      Cuts split.planned split.table.entries (place_of split host thread.at) entry.0
      (place_of split host (suc thread.at)) → IsEntryOn split.code host entry →
      (Paced split → IsPacedOp split.code split.pace host thread.at (op.Push entry)) →
      (token : Token) → top_token (entries_of view.chain) ≡ Some token →
      after_own_push (with_running old None) thread entry thread.held ≡ outcome →
      Turned split c view world host old thread outcome
  pushes outcome entry law is_entry pace token top is =
      let me = t.fits.me in
      let bare = with_running old None in
      let link = pushing old thread entry token t.at.call in
      let seen = with_chain view (link ∷ view.chain) in
      let state = after_push bare entry thread.frame token in
      let next = with_token (Some link.entry.token) (after_step thread) in
      let new = with_running state (Some next) in
      let calling = calm_calling split c view host thread t.at law.idle.1 in
      let known = t.holds.known in
      let made = t.at.made in
      let linked : IsLinked view.naming link = record { frame = calling.1; token = refl; known = omega arith } in
      let uncalled : calls_at split.code host (suc thread.at) ≡ false =
      none_called split host (suc thread.at) (ap (λ (p : Position). p.calling) law.goes) in
      runs_on (record {
        seen = seen;
        state = state;
        next = next;
        is = sym (ap (after_own_push bare thread entry) (t.at.held ∙ top)) ∙ is;
        steady = record { me = refl; ignored = refl; halted = refl; waiting = refl };
        grown = grows link me refl refl;
        is_chain = pushed_chain split view.naming view.chain link token t.is_chain top
            (subst (λ h. IsEntryOn split.code h entry) (sym me) is_entry) linked refl
            (pushed_fits split c view host thread t.at entry law);
        at = push_at split c view host thread t.at entry law link refl refl;
        sent = t.sent;
        keeps = kept split c seen world host new (λ after moved. holds_chain split c view after (link ∷ view.chain)
            (holds_same split c view world after host old new after.flying t.holds t.there moved refl refl refl));
        pace = λ paced. (falls_with_entry split host thread.at view.chain link
            (subst (pace_rules.PacedPush split.pace host thread.at) uncalled (pace paced))).1;
      })

  -- ---- transfers

  pub syncs : (outcome : Outcome) (entry : EntryId) (on : HostId) →
      IsTypedOp split.planned split.table host thread.at (op.Ask entry on) →
      IsGranted split.code host (op.Ask entry on) → IsEntryOn split.code on entry → on ≢ host →
      (Paced split → IsPacedOp split.code split.pace host thread.at (op.Ask entry on)) →
      (token : Token) → top_token (entries_of view.chain) ≡ Some token →
      after_ask (with_running old None) thread entry on thread.held ≡ outcome →
      Turned split c view world host old thread outcome
  syncs outcome entry on law granted is_entry apart pace token top is =
      let calling = calm_calling split c view host thread t.at law.0.idle.1 in
      let known = t.holds.known in
      let made = t.at.made in
      asks (record {
        next = with_token None (after_step thread);
        awaited = token_of_entry;
        to = on;
        asking = message.Sync (next_request old thread.at) thread.frame entry token;
        is = sym (ap (after_ask (with_running old None) thread entry on) (t.at.held ∙ top)) ∙ is;
        away = λ same. apart (same_id on host same);
        request = (
          refl,
          refl,
          granted,
          is_entry,
          top,
          t.at.call,
          calling.1,
          omega arith,
          pushed_fits split c view host thread t.at entry law.0,
          λ link same number. push_at split c view host thread t.at entry law.0 link same number,
        );
        pace = λ paced.
            let less = falls_with_entry split host thread.at view.chain (pushing old thread entry token 0) (pace paced)
            in
            (less.0, less.2);
      })

  -- The thread goes on at an entry of another host, in a frame, and these variables ride there.
  pub hands_on : (outcome : Outcome) (entry : EntryId) (on : HostId) (frame : FrameId) (riders : List VarId)
      (said : Message) (token : Token) → HandsOver split c view on entry frame token riders →
      arrival_in said
      ≡ Some (record { frame = frame; entry = entry; token = token; riders = riders_of old frame riders }) →
      May split.code on (ask.Enter entry) host → MayRide split.code on host riders →
      (Paced split → EntersLower split.code split.pace host thread.at entry) → (there : Entry) →
      entry_at split.code entry ≡ Some there → there.host ≡ on → top_token (entries_of view.chain) ≡ Some token →
      with_message (with_running old None) on said ≡ outcome → Turned split c view world host old thread outcome
  hands_on outcome entry on frame riders said token over arrives may ride pace there found on_host top is =
      hands (record {
        to = on;
        arrival = record { frame = frame; entry = entry; token = token; riders = riders_of old frame riders };
        said = said;
        arrives = arrives;
        is = is;
        top = top;
        goes = record {
          there = there;
          found = found;
          may = (may, subst (MayRide split.code on host) (sym (names_ride old frame riders)) ride);
          rides = rides_out split c view host old on entry frame token riders over t.sent;
          at = subst (λ h. IsAt split c (with_out view []) h (thread_at there frame token)) on_host
              (over.at there found);
        };
        pace = λ paced.
            let here : split.pace there.host.0 there.at ≡ split.pace on.0 there.at =
            ap (λ (h : HostId). split.pace h.0 there.at) on_host in
            handed (split.pace host.0 thread.at) (split.pace on.0 there.at) (length view.chain)
            (subst (λ n. n < split.pace host.0 thread.at) here (pace paced there found));
      })

  pub hands_over : (outcome : Outcome) (entry : EntryId) (on : HostId) →
      IsTypedOp split.planned split.table host thread.at (op.Go entry on) →
      IsGranted split.code host (op.Go entry on) → IsEntryOn split.code on entry →
      (Paced split → IsPacedOp split.code split.pace host thread.at (op.Go entry on)) →
      (found : Option Entry) → entry_at split.code entry ≡ found → IsSomeAnd found (λ there. there.host ≡ on) →
      (token : Token) → top_token (entries_of view.chain) ≡ Some token →
      after_go (with_running old None) thread thread.frame entry on thread.held ≡ outcome →
      Turned split c view world host old thread outcome
  hands_over outcome entry on law granted is_entry pace None found on_host token top is = absurd on_host
  hands_over outcome entry on law granted is_entry pace (Some there) found on_host token top is =
      let held = t.at.held ∙ top in
      hands_on outcome entry on thread.frame [] (message.Rgoto thread.frame entry token) token
      (go_at split c view host thread t.at entry on is_entry.0 law token held) refl granted tt pace there found on_host
      top (sym (ap (after_go (with_running old None) thread thread.frame entry on) held) ∙ is)

  pub hands_over_with : (outcome : Outcome) (entry : EntryId) (on : HostId) (riders : List VarId) →
      IsTypedOp split.planned split.table host thread.at (op.GoWith entry on riders) →
      IsGranted split.code host (op.GoWith entry on riders) → IsEntryOn split.code on entry →
      (Paced split → IsPacedOp split.code split.pace host thread.at (op.GoWith entry on riders)) →
      (found : Option Entry) → entry_at split.code entry ≡ found → IsSomeAnd found (λ there. there.host ≡ on) →
      (token : Token) → top_token (entries_of view.chain) ≡ Some token →
      after_go_with (with_running old None) thread thread.frame entry on riders thread.held ≡ outcome →
      Turned split c view world host old thread outcome
  hands_over_with outcome entry on riders law granted is_entry pace None found on_host token top is = absurd on_host
  hands_over_with outcome entry on riders law granted is_entry pace (Some there) found on_host token top is =
      let held = t.at.held ∙ top in
      hands_on outcome entry on thread.frame riders
      (message.RgotoWith thread.frame entry token (riders_of old thread.frame riders)) token
      (go_with_at split c view host thread t.at entry on riders is_entry.0 law token held) refl granted.0 granted.1 pace
      there found on_host top
      (sym (ap (after_go_with (with_running old None) thread thread.frame entry on riders) held) ∙ is)

  -- ---- the way back

  pub gives_back : (outcome : Outcome) → IsTypedOp split.planned split.table host thread.at op.Back →
      (Paced split → IsPacedOp split.code split.pace host thread.at op.Back) → (passes : Bool) →
      (IsTrue passes ↔ PassesWith split.code (with_running old None) op.Back thread.held) → (token : Token) →
      top_token (entries_of view.chain) ≡ Some token →
      after_back split.code (with_running old None) thread thread.held passes ≡ outcome →
      Turned split c view world host old thread outcome
  gives_back outcome law pace passes checked token top is =
      let code = split.code in
      let me = t.fits.me in
      let bare = with_running old None in
      let held = t.at.held ∙ top in
      let given_up = back_at split c view host thread t.at law in
      let own_one = without_message (if passes then after_pop code bare old.entries else with_one_ignored bare) in
      let sends = with_message bare token.host (message.Lgoto token) in
      let given : (if token.host.0 == old.me.0 then own_one else sends) ≡ outcome =
      sym (ap (λ o. after_back code bare thread o passes) held) ∙ is in
      let fuel = λ (paced : Paced split). back_fuel (split.pace host.0 thread.at) (length view.chain) (pace paced) in
      elim (eqb_tells token.host.0 old.me.0) [
        | inl same ↦
            let check : IsTrue passes ↔ PassesWith code bare op.Back (Some token) =
            subst (λ o. IsTrue passes ↔ PassesWith code bare op.Back o) held checked in
            ends (record {
              token = token;
              passes = passes;
              passing = (λ told. check.0 told same.1, λ first. check.1 (λ again. first));
              is = sym (ap (λ (b : Bool). if b then own_one else sends) same.0) ∙ given;
              top = top;
              own = same_id token.host host (same.1 ∙ ap (λ (h : HostId). h.0) me);
              gives_up = given_up;
              pace = λ paced. (fuel paced).0;
            })
        | inr apart ↦ returns (record {
          token = token;
          is = sym (ap (λ (b : Bool). if b then own_one else sends) apart.0) ∙ given;
          top = top;
          away = λ same. apart.1 (same ∙ sym (ap (λ (h : HostId). h.0) me));
          gives_up = given_up;
          pace = λ paced. let some = fuel paced in (some.1, some.2);
        })
      ]
