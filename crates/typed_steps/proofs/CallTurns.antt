-- A turn of who holds the token, by an instruction for calls.
use Rattle.std.proofs.Common.{◌≡◌, ◌≢◌, ◌∙◌, suc, inl, inr, Bool, true, List, [], ◌∷◌, Option, Some, None, refl, ap}
use Rattle.std.proofs.Common.{sym, subst, ◌+◌, ◌<◌, length}
use Rattle.std.specs.Prelude.{ℤ, ◌==◌, ◌↔◌, if◌then◌else◌, IsTrue, IsSomeAnd, slice_index, slice_set}
use Rattle.std.proofs.lemmas.Bool.Decides.{eqb_tells}
use Rattle.js_base.specs.declared.ids.HostId.{HostId}
use Rattle.js_base.specs.declared.ids.EntryId.{EntryId}
use Rattle.js_base.specs.declared.ids.FrameId.{FrameId}
use Rattle.js_base.specs.declared.ids.SiteId.{SiteId}
use Rattle.js_base.specs.declared.ids.VarId.{VarId}
use Rattle.jif_tree.specs.SourceRun.{Configuration}
use Rattle.jif_tree.specs.Trees.{BlockTree}
use Rattle.capability.specs.declared.token.Token.{Token}
use Rattle.ics_stack.specs.Stack.{top_token}
use Rattle.host_code.specs.declared.code.Entry.{Entry}
use Rattle.host_code.specs.declared.code_expr.Node.{Node}
use Rattle.host_code.specs.declared.instruction.Op.TheVariants as op
use Rattle.host_code.specs.declared.message.Message.TheVariants as message
use Rattle.host_code.specs.Code.{entry_at, site_at}
use Rattle.host_code.specs.Sound.{IsEntryOn}
use Rattle.host_code.specs.Thread.{ThreadShape}
use Rattle.host_core.specs.Host.{HostState, with_running, with_variable_set, after_push, after_step}
use Rattle.host_core.specs.Host.{after_clearing, with_token, thread_at, value_in_thread}
use Rattle.host_core.specs.Turn.{with_thread, after_frame, after_own_push, after_go, after_go_with, after_call}
use Rattle.host_core.specs.Turn.{after_own_call, after_return, after_forward, riders_of, PassesWith}
use Rattle.split_rules.specs.Asking.{IsGranted}
use Rattle.split_rules.specs.Pace.{IsPacedOp}
use Rattle.split_rules.specs.Positions.{Argument, arguing}
use Rattle.split_rules.specs.Typing as typing
use Rattle.split_rules.specs.TypedCode.{IsTypedOp}
use Rattle.net_world.specs.World.{WorldShape}
use Rattle.net_world.proofs.Present.{same_id}
use Rattle.typed_steps.specs.Views.{Split, View, values_set, entries_of, place_of, with_chain, with_out}
use Rattle.typed_steps.specs.Chains.{IsLinked}
use Rattle.typed_steps.specs.Threads.{IsAt, IsCalling}
use Rattle.typed_steps.specs.Weights.{Paced}
use Rattle.typed_steps.proofs.Instructions.{after_setting}
use Rattle.typed_steps.proofs.Transfers.{calm_calling, none_left_out}
use Rattle.typed_steps.proofs.Arguments.{framed, frame_at, arg_at}
use Rattle.typed_steps.proofs.CallsMade.{call_made, enter_at, enter_with_at}
use Rattle.typed_steps.proofs.ResultsGiven.{return_at}
use Rattle.typed_steps.proofs.Holding.{sent_set}
use Rattle.typed_steps.proofs.HeldSteps.{holds_same, holds_calm, holds_chain, holds_argued, holds_framed, holds_called}
use Rattle.typed_steps.proofs.HeldSteps.{holds_given}
use Rattle.typed_steps.proofs.Pops.{pushed_chain, chain_more}
use Rattle.typed_steps.proofs.Fuel.{falls, falls_at_step, falls_with_call}
use Rattle.typed_steps.proofs.Turns.{knows, sends_nothing, pushing, hands_on}
use Rattle.split_rules.specs.Positions.{Calling}
use Rattle.typed_steps.specs.Turns.{IsActing, Turned, stays, grows, runs_on, steps, gives}
use Rattle.host_core.specs.Host.{Outcome}
use Rattle.typed_steps.proofs.HeldSteps.{kept}
use Rattle.typed_steps.proofs.Fuel.{entered}
use Rattle.typed_steps.proofs.Turns.{some_entry}

module _ (split : Split) (c : Configuration) (view : View) (world : WorldShape) (host : HostId) (old : HostState)
    (thread : ThreadShape) (t : IsActing split c view world host old thread) where
  -- ---- a frame

  pub makes_frame : (outcome : Outcome) (site : SiteId) →
      IsTypedOp split.planned split.table host thread.at (op.Frame site) → site_at split.code site ≡ Some host →
      site.0 < length old.frames →
      (Paced split → IsPacedOp split.code split.pace host thread.at (op.Frame site)) →
      after_frame (with_running old None) thread site ≡ outcome → Turned split c view world host old thread outcome
  makes_frame outcome site law on within pace is =
      let makes = frame_at split c view host thread t.at site law in
      let frame : FrameId = record { site = site; count = slice_index old.frames site.0 } in
      let seen = framed view frame (length c.calls) makes.caller makes.method in
      let state : HostState = record old {
        running = None;
        frames = slice_set old.frames site.0 (slice_index old.frames site.0 + 1);
      } in
      let next : ThreadShape = record (after_step thread) { new_frame = frame } in
      let new = with_running state (Some next) in
      runs_on (record {
        seen = seen;
        state = state;
        next = next;
        is = is;
        steady = record { me = refl; ignored = refl; halted = refl; waiting = refl };
        grown = stays refl refl;
        is_chain = chain_more split view.naming frame makes.caller makes.method view.chain t.is_chain;
        at = makes.at frame;
        sent = tt;
        keeps = kept split c seen world host new
            (λ after moved. holds_framed split c view world after host old new after.flying site makes.caller
            makes.method t.holds makes.none_out makes.count t.there moved refl refl on within refl makes.plainly);
        pace = λ paced. (falls split host thread.at view.chain (pace paced)).1;
      })

  -- ---- parameters

  argument_frame : (x : VarId) (nodes : List Node) (calling : Calling) →
      typing.Argues split.planned host (place_of split host thread.at) calling x nodes
      (place_of split host (suc thread.at)) →
      IsCalling split c view.naming view.values view.sender host thread.frame thread.new_frame t.at.call
      (place_of split host thread.at).due calling → thread.frame ≡ view.naming.frame t.at.call
  argument_frame x nodes (arguing statement set left) argues is = is.frame_is
  argument_frame x nodes _ argues is = absurd argues

  pub sets_argument : (outcome : Outcome) (x : VarId) (nodes : List Node) →
      IsTypedOp split.planned split.table host thread.at (op.Arg x nodes) →
      (Paced split → IsPacedOp split.code split.pace host thread.at (op.Arg x nodes)) →
      with_thread (with_variable_set (with_running old None) thread.new_frame x
      (value_in_thread (with_running old None) thread nodes)) (after_clearing thread) ≡ outcome →
      Turned split c view world host old thread outcome
  sets_argument outcome x nodes law pace is =
      let bare = with_running old None in
      let call = length c.calls in
      let value = value_in_thread bare thread nodes in
      let frame = argument_frame x nodes (place_of split host thread.at).calling law t.at.calling in
      let sets = arg_at split c view host thread (old.variables thread.frame) t.at
      (knows split c view world host old thread t frame) x nodes law in
      let seen = after_setting split view host sets.from call x value in
      let state = with_variable_set bare (view.naming.frame call) x value in
      let new = with_running state (Some (after_clearing thread)) in
      runs_on (record {
        seen = seen;
        state = state;
        next = after_clearing thread;
        is = ap (λ f. with_thread (with_variable_set bare f x value) (after_clearing thread)) (sym sets.new_frame) ∙ is;
        steady = record { me = refl; ignored = refl; halted = refl; waiting = refl };
        grown = stays refl refl;
        is_chain = t.is_chain;
        at = sets.at;
        sent = sent_set split view.naming view.values old.variables view.out view.sender host call x value sets.from
            (inr sets.sender) t.sent;
        keeps = kept split c seen world host new
            (λ after moved. holds_argued split c view world after host old new after.flying x value sets.from t.many
            t.holds sets.sender t.there moved refl sets.within refl refl sets.plainly);
        pace = λ paced. (falls split host thread.at view.chain (pace paced)).1;
      })

  -- ---- the call

  pub pushes_call : (outcome : Outcome) (entry : EntryId) (statement : BlockTree) (set left : List Argument) →
      (place_of split host thread.at).calling ≡ arguing statement set left →
      typing.Pushes split.planned split.table.entries (place_of split host thread.at) (arguing statement set left)
      entry.0 (place_of split host (suc thread.at)) → IsEntryOn split.code host entry →
      (Paced split → IsPacedOp split.code split.pace host thread.at (op.Push entry)) →
      (token : Token) → top_token (entries_of view.chain) ≡ Some token →
      after_own_push (with_running old None) thread entry thread.held ≡ outcome →
      Turned split c view world host old thread outcome
  pushes_call outcome entry statement set left calling law is_entry pace token top is =
      let me = t.fits.me in
      let bare = with_running old None in
      let makes = call_made split c view host thread t.at entry statement set left calling law in
      let link = pushing old thread entry token makes.caller in
      let seen = with_chain view (link ∷ view.chain) in
      let state = after_push bare entry thread.frame token in
      let next = with_token (Some link.entry.token) (after_step thread) in
      let now = makes.now in
      let new = with_running state (Some next) in
      let linked : IsLinked view.naming link = record { frame = makes.frame; token = refl; known = makes.within } in
      steps now makes.does (record {
        seen = seen;
        state = state;
        next = next;
        is = sym (ap (after_own_push bare thread entry) (t.at.held ∙ top)) ∙ is;
        steady = record { me = refl; ignored = refl; halted = refl; waiting = refl };
        grown = grows link me refl refl;
        is_chain = pushed_chain split view.naming view.chain link token t.is_chain top
            (subst (λ h. IsEntryOn split.code h entry) (sym me) is_entry) linked refl makes.fits;
        at = makes.at link refl refl me;
        sent = t.sent;
        keeps = kept split now seen world host new (λ after moved. holds_chain split now view after (link ∷ view.chain)
            (holds_called split c now view after makes.made
            (holds_same split c view world after host old new after.flying t.holds t.there moved refl refl refl)
            makes.count makes.store makes.calls makes.caller_is makes.method_is makes.values makes.plainly));
        pace = λ paced. falls_with_call split host thread.at view.chain link (pace paced);
      })

  -- ---- the way in

  pub enters : (outcome : Outcome) (entry : EntryId) (on : HostId) →
      IsTypedOp split.planned split.table host thread.at (op.Call entry on) →
      IsGranted split.code host (op.Call entry on) → IsEntryOn split.code on entry →
      (Paced split → IsPacedOp split.code split.pace host thread.at (op.Call entry on)) →
      (found : Option Entry) → entry_at split.code entry ≡ found → IsSomeAnd found (λ there. there.host ≡ on) →
      (token : Token) → top_token (entries_of view.chain) ≡ Some token →
      after_call split.code (with_running old None) thread entry on ≡ outcome →
      Turned split c view world host old thread outcome
  enters outcome entry on law granted is_entry pace None found on_host token top is = absurd on_host
  enters outcome entry on law granted is_entry pace (Some there) found on_host token top is =
      let me = t.fits.me in
      let bare = with_running old None in
      let held = t.at.held ∙ top in
      let enters = enter_at split c view host thread t.at entry on token is_entry.0 held law in
      let over = enters.over in
      let seen = with_out view [] in
      let next = thread_at there thread.new_frame token in
      let near = after_own_call bare thread (entry_at split.code entry) in
      let far = after_go bare thread thread.new_frame entry on thread.held in
      let lower = λ (paced : Paced split) (h : HostId) (same : on ≡ h).
      subst (λ n. n < split.pace host.0 thread.at)
      (ap (λ (k : HostId). split.pace k.0 there.at) (on_host ∙ same)) (pace paced there found) in
      elim (eqb_tells on.0 old.me.0) [
        | inl same ↦
            let own : on ≡ host = same_id on host (same.1 ∙ ap (λ (h : HostId). h.0) me) in
            let make = λ (list : List ℤ) (o : Option Token).
            let it : ThreadShape = record {
              at = there.at;
              frame = thread.new_frame;
              new_frame = thread.new_frame;
              temporaries = list;
              held = o;
            } in it in
            let threads : make thread.temporaries thread.held ≡ next =
            ap (λ list. make list thread.held) enters.bare ∙ ap (make []) held in
            let done : with_thread bare next ≡ outcome =
            ap (with_thread bare) (sym threads) ∙ sym (ap (after_own_call bare thread) found)
            ∙ sym (ap (λ (b : Bool). if b then near else far) same.0) ∙ is in
            let new = with_running bare (Some next) in
            runs_on (record {
              seen = seen;
              state = bare;
              next = next;
              is = done;
              steady = record { me = refl; ignored = refl; halted = refl; waiting = refl };
              grown = stays refl refl;
              is_chain = t.is_chain;
              at = subst (λ h. IsAt split c seen h next) (on_host ∙ own) (over.at there found);
              sent = tt;
              keeps = kept split c seen world host new (λ after moved. holds_calm split c view after view.chain
                  view.sender
                  (holds_same split c view world after host old new after.flying t.holds t.there moved refl refl refl)
                  (none_left_out on view.out over.rides));
              pace = λ paced. entered (split.pace host.0 thread.at) (split.pace host.0 there.at) (length view.chain)
                  (lower paced host own);
            })
        | inr apart ↦
            let away : on ≢ host = λ same. apart.1 (ap (λ (h : HostId). h.0) (same ∙ sym me)) in
            hands_on split c view world host old thread t outcome entry on thread.new_frame []
            (message.Rgoto thread.new_frame entry token) token over refl (granted away) tt pace there found on_host top
            (sym (ap (after_go bare thread thread.new_frame entry on) held)
            ∙ sym (ap (λ (b : Bool). if b then near else far) apart.0) ∙ is)
      ]

  -- a method of another host is entered, and parameters ride there
  pub enters_with : (outcome : Outcome) (entry : EntryId) (on : HostId) (riders : List VarId) →
      IsTypedOp split.planned split.table host thread.at (op.CallWith entry on riders) →
      IsGranted split.code host (op.CallWith entry on riders) → IsEntryOn split.code on entry →
      (Paced split → IsPacedOp split.code split.pace host thread.at (op.CallWith entry on riders)) →
      (found : Option Entry) → entry_at split.code entry ≡ found → IsSomeAnd found (λ there. there.host ≡ on) →
      (token : Token) → top_token (entries_of view.chain) ≡ Some token →
      after_go_with (with_running old None) thread thread.new_frame entry on riders thread.held ≡ outcome →
      Turned split c view world host old thread outcome
  enters_with outcome entry on riders law granted is_entry pace None found on_host token top is = absurd on_host
  enters_with outcome entry on riders law granted is_entry pace (Some there) found on_host token top is =
      let held = t.at.held ∙ top in
      let enters = enter_with_at split c view host thread t.at entry on riders token is_entry.0 held law in
      hands_on split c view world host old thread t outcome entry on thread.new_frame riders
      (message.RgotoWith thread.new_frame entry token (riders_of old thread.new_frame riders)) token enters.over refl
      granted.0 granted.1 pace there found on_host top
      (sym (ap (after_go_with (with_running old None) thread thread.new_frame entry on riders) held) ∙ is)

  -- ---- the result

  pub returns_value : (outcome : Outcome) (x : VarId) (nodes : List Node) →
      IsTypedOp split.planned split.table host thread.at (op.Ret x nodes) →
      IsGranted split.code host (op.Ret x nodes) →
      (Paced split → IsPacedOp split.code split.pace host thread.at (op.Ret x nodes)) → (passes : Bool) →
      (IsTrue passes ↔ PassesWith split.code (with_running old None) (op.Ret x nodes) thread.held) → (token : Token) →
      top_token (entries_of view.chain) ≡ Some token →
      after_return (with_running old None) thread x nodes thread.held passes ≡ outcome →
      Turned split c view world host old thread outcome
  returns_value outcome x nodes law granted pace passes checked token top is =
      let me = t.fits.me in
      let bare = with_running old None in
      let held = t.at.held ∙ top in
      let value = value_in_thread bare thread nodes in
      let frame = (calm_calling split c view host thread t.at law.3).1 in
      let result = return_at split c view host thread (old.variables thread.frame) t.at
      (knows split c view world host old thread t frame) t.is_chain (t.holds.named t.at.call t.at.made) x nodes law
      token held in
      let now = result.now in
      let near = with_thread (with_variable_set bare token.frame x value) (after_clearing thread) in
      let sent = after_forward bare thread.at (after_clearing thread) token.frame x value token.host in
      let far = λ (b : Bool). if b then sent else with_thread bare (after_clearing thread) in
      let given : (if token.host.0 == old.me.0 then near else far passes) ≡ outcome =
      sym (ap (λ o. after_return bare thread x nodes o passes) held) ∙ is in
      let some = some_entry split c view world host old thread t in
      elim (eqb_tells token.host.0 old.me.0) [
        | inl same ↦
            let own : token.host ≡ host = same_id token.host host (same.1 ∙ ap (λ (h : HostId). h.0) me) in
            let state = with_variable_set bare (view.naming.frame result.caller) x value in
            let new = with_running state (Some (after_clearing thread)) in
            let seen : View = record view { values = values_set view.values result.caller x.0 value; keeper = host } in
            steps now result.does (record {
              seen = seen;
              state = state;
              next = after_clearing thread;
              is = ap (λ f. with_thread (with_variable_set bare f x value) (after_clearing thread))
                  (sym result.frame_is) ∙ sym (ap (λ (b : Bool). if b then near else far passes) same.0) ∙ given;
              steady = record { me = refl; ignored = refl; halted = refl; waiting = refl };
              grown = stays refl refl;
              is_chain = t.is_chain;
              at = subst (λ h. IsAt split now (record view {
                values = values_set view.values result.caller x.0 value;
                keeper = h;
              }) host (after_clearing thread)) own result.at;
              sent = sends_nothing split seen state host result.none_out;
              keeps = kept split now seen world host new
                  (λ after moved. holds_given split c now view world after host old new after.flying result.caller x
                  value result.into result.behind t.holds result.none_out t.there moved refl refl refl result.made
                  result.unread result.store result.calls result.pending);
              pace = λ paced. (falls_at_step split host thread.at view.chain some (pace paced)).1;
            })
        | inr apart ↦
            let passing : PassesWith split.code bare (op.Ret x nodes) thread.held =
            subst (PassesWith split.code bare (op.Ret x nodes)) (sym held) (λ differs. result.sees) in
            let passed : passes ≡ true = checked.1 passing in
            gives (record {
              next = after_clearing thread;
              to = token.host;
              frame = token.frame;
              x = x;
              value = value;
              is = ap far (sym passed) ∙ sym (ap (λ (b : Bool). if b then near else far passes) apart.0) ∙ given;
              away = λ same. apart.1 (same ∙ sym (ap (λ (h : HostId). h.0) me));
              may = granted token.host;
              result = result;
              pace = λ paced.
                  let less = falls_at_step split host thread.at view.chain some (pace paced) in (less.0, less.2);
            })
      ]
