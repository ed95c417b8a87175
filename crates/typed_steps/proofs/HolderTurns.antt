-- A turn of who holds the token, whatever instruction it runs.
use Rattle.std.proofs.Common.{◌≡◌, ◌∙◌, ℕ, zero, suc, Bool, List, Option, Some, None, refl, ap, sym, subst, arith}
use Rattle.std.proofs.Common.{◌+◌, ◌<◌, length}
use Rattle.std.specs.Prelude.{◌↔◌, IsTrue}
use Rattle.std.specs.Option.{option_and_then}
use Rattle.std.proofs.lemmas.Option.{slice_get_within}
use Rattle.js_base.specs.declared.ids.HostId.{HostId}
use Rattle.js_base.specs.declared.ids.EntryId.{EntryId}
use Rattle.jif_tree.specs.SourceRun.{Configuration}
use Rattle.capability.specs.declared.token.Token.{Token}
use Rattle.ics_stack.specs.Stack.{top_token}
use Rattle.host_code.specs.declared.instruction.Instr.{Instr}
use Rattle.host_code.specs.declared.instruction.Op.{Op}
use Rattle.host_code.specs.declared.instruction.Op.TheVariants as op
use Rattle.host_code.specs.Code.{field_at, entry_at, instruction_at, part_of, host_of_site}
use Rattle.host_code.specs.Sound.{IsEntryOn, OperationFits}
use Rattle.host_core.specs.Host.{HostState, Outcome, with_running}
use Rattle.host_core.specs.Turn.{after_own_push, after_operation, PassesWith, IsRunning, IsTurn, IsTurnOf}
use Rattle.host_core.specs.Turn.{label_of_turn}
use Rattle.host_core.specs.Turn.{label_of_thread}
use Rattle.split_rules.specs.Asking.{IsGranted}
use Rattle.split_rules.specs.Pace.{IsPacedOp}
use Rattle.split_rules.specs.Positions.{Calling, no_call, arguing, entering}
use Rattle.split_rules.specs.Typing as typing
use Rattle.split_rules.specs.TypedCode.{IsTypedOp}
use Rattle.net_world.specs.World.{WorldShape}
use Rattle.typed_steps.specs.Views.{Split, entries_of, place_of}
use Rattle.typed_steps.specs.Threads.{IsCalling}
use Rattle.typed_steps.specs.Weights.{Paced}
use Rattle.typed_steps.proofs.Transfers.{calm_calling}
use Rattle.typed_steps.proofs.Holding.{host_within}
use Rattle.typed_steps.proofs.Pops.{top_of}
use Rattle.typed_steps.proofs.Fuel.{none_within, place_there}
use Rattle.typed_steps.proofs.Turns.{read_found, set_local, put_found, forwards, branches, pushes, syncs, hands_over}
use Rattle.typed_steps.proofs.Turns.{hands_over_with, gives_back}
use Rattle.typed_steps.proofs.CallTurns.{makes_frame, sets_argument, pushes_call, enters, enters_with, returns_value}
use Rattle.typed_steps.specs.Turns.{IsActing, Turned}
use Rattle.host_code.specs.Thread.{ThreadShape}
use Rattle.typed_steps.specs.Views.{View}
use Rattle.typed_steps.proofs.Holding.{host_within}

-- the number of a site is that of a count of frames
site_within : (sites : List HostId) (site : ℕ) (host : HostId) → host_of_site sites site ≡ Some host →
    site < length sites + 1
site_within sites zero host is = absurd (cc)
site_within sites (suc place) host is =
    let within = slice_get_within sites place host is in omega arith

module _ (split : Split) (c : Configuration) (view : View) (world : WorldShape) (host : HostId) (old : HostState)
    (thread : ThreadShape) (t : IsActing split c view world host old thread) where
  -- an entry is pushed, for a call or for what is behind
  pushes_any : (outcome : Outcome) (entry : EntryId) (calling : Calling) →
      (place_of split host thread.at).calling ≡ calling →
      typing.Pushes split.planned split.table.entries (place_of split host thread.at) calling entry.0
      (place_of split host (suc thread.at)) → IsEntryOn split.code host entry →
      (Paced split → IsPacedOp split.code split.pace host thread.at (op.Push entry)) →
      (token : Token) → top_token (entries_of view.chain) ≡ Some token →
      after_own_push (with_running old None) thread entry thread.held ≡ outcome →
      Turned split c view world host old thread outcome
  pushes_any outcome entry no_call calling law is_entry pace token top is =
      pushes split c view world host old thread t outcome entry law is_entry pace token top is
  pushes_any outcome entry (arguing statement set left) calling law is_entry pace token top is =
      pushes_call split c view world host old thread t outcome entry statement set left calling law is_entry pace token
      top is
  pushes_any outcome entry (entering statement) calling law is_entry pace token top is = absurd law

  operation : (outcome : Outcome) (count : ℕ) (what : Op) →
      IsTypedOp split.planned split.table host thread.at what → IsGranted split.code host what →
      OperationFits split.code host count what →
      (Paced split → IsPacedOp split.code split.pace host thread.at what) →
      (token : Token) → top_token (entries_of view.chain) ≡ Some token → (passes : Bool) →
      (IsTrue passes ↔ PassesWith split.code (with_running old None) what thread.held) →
      after_operation split.code (with_running old None) thread what passes ≡ outcome →
      Turned split c view world host old thread outcome
  operation outcome count (op.Read field index) law granted fits pace token top passes checked is =
      read_found split c view world host old thread t outcome field index law granted fits.0 pace
      (field_at split.code field) refl is
  operation outcome count (op.Let x nodes) law granted fits pace token top passes checked is =
      set_local split c view world host old thread t outcome x nodes law pace is
  operation outcome count (op.Put field index nodes) law granted fits pace token top passes checked is =
      put_found split c view world host old thread t outcome field index nodes law granted fits.0 pace
      (field_at split.code field) refl is
  operation outcome count (op.Send x to) law granted fits pace token top passes checked is =
      let calling = calm_calling split c view host thread t.at law.0 in
      let known = t.holds.known in
      let made = t.at.made in
      forwards split c view world host old thread t outcome thread.frame x to
      (calling.1 ∙ sym (ap view.naming.frame calling.2))
      (subst (λ n. n < view.naming.count) (sym calling.2) (omega arith)) law.1 granted pace is
  operation outcome count (op.Frame site) law granted fits pace token top passes checked is =
      let within = site_within split.code.sites site.0 host fits in
      makes_frame split c view world host old thread t outcome site law fits
      (subst (λ n. site.0 < n) (sym t.fits.fits.frames) within) pace is
  operation outcome count (op.Arg x nodes) law granted fits pace token top passes checked is =
      sets_argument split c view world host old thread t outcome x nodes law pace is
  operation outcome count (op.Pass x to) law granted fits pace token top passes checked is =
      let args = subst (IsCalling split c view.naming view.values view.sender host thread.frame thread.new_frame
      t.at.call (place_of split host thread.at).due) law.3 t.at.calling in
      let count = args.count in
      forwards split c view world host old thread t outcome thread.new_frame x to
      (args.new_frame_is ∙ sym (ap view.naming.frame args.sender_is))
      (subst (λ n. n < view.naming.count) (sym args.sender_is) (omega arith)) law.4 granted pace is
  operation outcome count (op.Push entry) law granted fits pace token top passes checked is =
      pushes_any outcome entry (place_of split host thread.at).calling refl law fits pace token top is
  operation outcome count (op.Ask entry on) law granted fits pace token top passes checked is =
      syncs split c view world host old thread t outcome entry on law granted fits.0 fits.1.1 pace token top is
  operation outcome count (op.Go entry on) law granted fits pace token top passes checked is =
      hands_over split c view world host old thread t outcome entry on law granted fits.0 pace
      (entry_at split.code entry) refl fits.0.1 token top is
  operation outcome count (op.Call entry on) law granted fits pace token top passes checked is =
      enters split c view world host old thread t outcome entry on law granted fits.0 pace (entry_at split.code entry)
      refl fits.0.1 token top is
  operation outcome count (op.Ret x nodes) law granted fits pace token top passes checked is =
      returns_value split c view world host old thread t outcome x nodes law granted pace passes checked token top is
  operation outcome count op.Back law granted fits pace token top passes checked is =
      gives_back split c view world host old thread t outcome law pace passes checked token top is
  operation outcome count (op.Branch guard target) law granted fits pace token top passes checked is =
      branches split c view world host old thread t outcome guard target law pace is
  operation outcome count (op.GoWith entry on riders) law granted fits pace token top passes checked is =
      hands_over_with split c view world host old thread t outcome entry on riders law granted fits.0 pace
      (entry_at split.code entry) refl fits.0.1 token top is
  operation outcome count (op.CallWith entry on riders) law granted fits pace token top passes checked is =
      enters_with split c view world host old thread t outcome entry on riders law granted fits.0 pace
      (entry_at split.code entry) refl fits.0.1 token top is

  -- ---- a turn

  turn_found : (outcome : Outcome) (found : Option Instr) → instruction_at split.code host thread.at ≡ found →
      IsRunning split.code (with_running old None) thread found outcome →
      (label : ℕ) × (option_and_then (λ one. Some one.label) found ≡ Some label)
      × Turned split c view world host old thread outcome
  turn_found outcome None is running =
      absurd (none_within (part_of split.code host) thread.at (place_there split host old thread t.fits t.running) is)
  turn_found outcome (Some there) is running =
      let token = top_of split view.naming view.chain t.is_chain in
      let within = host_within split.code world host old t.many t.there in (
        there.label,
        refl,
        operation outcome _ there.op (split.typed.instructions host thread.at there is).1
            (split.granted host thread.at there is)
            ((split.sound.parts host within).instructions thread.at there is).operation
            (λ paced. paced.instructions host thread.at there is) token.0 token.1 running.0 running.1 running.2,
      )

  -- who holds the token makes a turn, by an instruction with a label
  pub turned : (outcome : Outcome) → IsTurn split.code old outcome →
      (label : ℕ) × (label_of_turn split.code old ≡ Some label) × Turned split c view world host old thread outcome
  turned outcome turns =
      let code = split.code in
      let me = t.fits.me in
      let found = instruction_at code host thread.at in
      let labels : label_of_turn code old ≡ option_and_then (λ one. Some one.label) found =
      ap (label_of_thread code old.me) t.running ∙ ap (λ m. label_of_thread code m (Some thread)) me in
      let running : IsRunning code (with_running old None) thread found outcome =
      subst (λ m. IsRunning code (with_running old None) thread (instruction_at code m thread.at) outcome) me
      (subst (λ o. IsTurnOf code old o outcome) t.running turns) in
      let turn = turn_found outcome found refl running in
      (turn.0, labels ∙ turn.1, turn.2)
