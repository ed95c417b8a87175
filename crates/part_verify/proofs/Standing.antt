-- Each thread of a host stands where the entry at which it started may lead, whatever is delivered.
use Rattle.std.proofs.Common.{◌≡◌, ◌≢◌, ◌∙◌, ◌+◌, ℕ, All, List, [], ◌∷◌, ◌++◌, Option, Some, None, ap, sym, subst, inl}
use Rattle.std.proofs.Common.{inr, refl}
use Rattle.std.specs.Prelude.{Bool, true, false, ◌==◌, ◌↔◌, if◌then◌else◌, IsTrue, IsSome, Contains, IsSomeAnd}
use Rattle.std.specs.Prelude.{slice_get}
use Rattle.std.specs.Option.{option_map}
use Rattle.std.specs.Ordering.{int_eq}
use Rattle.std.proofs.lemmas.Bool.{false≢true}
use Rattle.std.proofs.lemmas.Bool.Decides.{eqb_tells}
use Rattle.std.proofs.lemmas.List.Elements.{Contains-push, Contains-append_left, All-head}
use Rattle.js_base.specs.declared.ids.HostId.{HostId}
use Rattle.js_base.specs.declared.ids.FieldId.{FieldId}
use Rattle.js_base.specs.declared.ids.FrameId.{FrameId}
use Rattle.js_base.specs.declared.ids.VarId.{VarId}
use Rattle.js_base.specs.declared.ids.EntryId.{EntryId}
use Rattle.capability.specs.declared.token.Token.{Token}
use Rattle.ics_stack.specs.declared.stack.StackEntry.{StackEntry}
use Rattle.host_code.specs.declared.code.Entry.{Entry}
use Rattle.host_code.specs.declared.code_expr.Node.{Node}
use Rattle.host_code.specs.declared.instruction.Instr.{Instr}
use Rattle.host_code.specs.declared.instruction.Op.{Op}
use Rattle.host_code.specs.declared.instruction.Op.TheVariants as op
use Rattle.host_code.specs.declared.message.Message.{Message}
use Rattle.host_code.specs.declared.message.Message.TheVariants as message
use Rattle.host_code.specs.Code.{CodeShape, CodeFieldShape, halt, field_at, entry_at, instruction_at}
use Rattle.host_code.specs.Sound.{IsEntryOn, OperationFits}
use Rattle.host_code.specs.Riders.{Rider}
use Rattle.host_code.specs.Thread.{ThreadShape, WaitingShape}
use Rattle.host_code.specs.Thread.Awaited.{value_of_field, acknowledgement, token_of_entry}
use Rattle.host_core.specs.Host.{HostState, Outcome, without_message, with_running, with_one_ignored, after_pop}
use Rattle.host_core.specs.Host.{after_entering, value_in_thread, with_variable_set, with_variables_set, with_temporary}
use Rattle.host_core.specs.Host.{with_token}
use Rattle.host_core.specs.Taking.{after_passing, after_taking, after_answer, PassesCheck, place_of_awaiting}
use Rattle.host_core.specs.Turn.{after_operation, after_read, after_put, after_own_push, after_ask, after_go}
use Rattle.host_core.specs.Turn.{after_go_with, after_own_call, after_return, after_back, after_branch}
use Rattle.host_core.specs.Fits.{StackEntryFits, TokenFits}
use Rattle.host_core.proofs.TurnKept.{same_host}
use Rattle.part_verify.specs.Paths.{goes_on}
use Rattle.part_verify.specs.SoundPart.{AreNeedsKept}
use Rattle.part_verify.specs.Marks.{Marks, mark_of, top_entry, marks_sent, mark_behind, marks_after_message}
use Rattle.part_verify.specs.Marks.{marks_answered}
use Rattle.part_verify.proofs.Covered.{IsCovered, IsMarked, AreMarked, covered_entered, covered_next, covered_called}
use Rattle.part_verify.proofs.Covered.{at_rest, marked_push, marked_remove, marked_at}

-- the host keeps its number, and its threads stand where their marks may lead
abbrev pub Stands : CodeShape → HostId → HostState → Marks → Type 0
Stands code me host marks = (host.me ≡ me) × IsMarked code me host.running marks.running
    × AreMarked code me marks.waiting host.waiting

other_entry : (entry : EntryId) → (entry.0 == 0) ≡ false → entry ≢ halt
other_entry entry other is = elim (eqb_tells entry.0 0) [
  | inl same ↦ false≢true (sym other ∙ same.0)
  | inr apart ↦ apart.1 (ap (λ (e : EntryId). e.0) is)
]

module _ (code : CodeShape) (me : HostId) where
  -- ---- a thread that starts at an entry

  entered : (host : HostState) (entry : EntryId) (frame : FrameId) (token : Token) (waiting : List EntryId)
      (found : Option Entry) → entry_at code entry ≡ found → host.me ≡ me → AreMarked code me waiting host.waiting →
      entry ≢ halt → IsSomeAnd found (λ there. there.host ≡ me) →
      Stands code me (after_entering host found frame token)
      (record { running = mark_of (after_entering host found frame token).running (Some entry); waiting = waiting })
  entered host entry frame token waiting None is same all not_halt on = absurd on
  entered host entry frame token waiting (Some there) is same all not_halt on =
      (same, covered_entered code me entry there not_halt is on, all)

  popped_on : (host : HostState) (entry : EntryId) (frame : FrameId) (kept : Token) (waiting : List EntryId)
      (halts : Bool) → (entry.0 == halt.0) ≡ halts → host.me ≡ me → AreMarked code me waiting host.waiting →
      IsSomeAnd (entry_at code entry) (λ there. there.host ≡ me) →
      Stands code me (if halts then record host { running = None; halted = true }
      else after_entering host (entry_at code entry) frame kept)
      (record {
        running = mark_of (if halts then record host { running = None; halted = true }
            else after_entering host (entry_at code entry) frame kept).running (Some entry);
        waiting = waiting;
      })
  popped_on host entry frame kept waiting true is same all on = (same, tt, all)
  popped_on host entry frame kept waiting false is same all on =
      entered host entry frame kept waiting (entry_at code entry) refl same all (other_entry entry is) on

  popped : (host : HostState) (entries : List StackEntry) (waiting : List EntryId) → host.me ≡ me →
      host.running ≡ None → AreMarked code me waiting host.waiting → All (StackEntryFits code me) entries →
      Stands code me (after_pop code host entries)
      (record { running = mark_of (after_pop code host entries).running (top_entry entries); waiting = waiting })
  popped host [] waiting same rests all fits = (same, at_rest code me host.running _ rests, all)
  popped host (top ∷ below) waiting same rests all fits =
      popped_on (record host { entries = below }) top.entry top.frame top.kept waiting (top.entry.0 == halt.0) refl same
      all (All-head (StackEntryFits code me) top below fits).entry

  -- ---- a turn

  -- what a turn leaves, whichever of two things it does
  abbrev Leaves : Marks → Option EntryId → Outcome → Type 0
  Leaves marks mark outcome =
      Stands code me outcome.state (marks_sent marks outcome.state.running mark outcome.sent)

  either : (marks : Marks) (mark : Option EntryId) (here : Bool) (own other : Outcome) → Leaves marks mark own →
      Leaves marks mark other → Leaves marks mark (if here then own else other)
  either marks mark true own other first second = first
  either marks mark false own other first second = second

  module _ (host : HostState) (thread : ThreadShape) (mark : EntryId) (waiting : List EntryId) (same : host.me ≡ me)
      (rests : host.running ≡ None) (all : AreMarked code me waiting host.waiting)
      (here : IsCovered code me mark thread.at) where
    abbrev marked : Marks
    marked = record { running = Some mark; waiting = waiting }

    abbrev this : Option EntryId
    this = Some mark

    -- the thread waits with its mark
    waits : (last : WaitingShape) → IsCovered code me mark last.thread.at →
        AreMarked code me (waiting ++ mark ∷ []) (host.waiting ++ last ∷ [])
    waits last covered = marked_push code me waiting host.waiting mark last all covered

    read_leaves : (field : FieldId) (index : List Node) (found : Option CodeFieldShape) →
        IsCovered code me mark (thread.at + 1) → Leaves marked this (after_read host thread field index found)
    read_leaves field index None next = (same, here, all)
    read_leaves field index (Some there) next =
        either marked this (there.host.0 == host.me.0) _ _ (same, next, all) (same, tt, waits _ next)

    put_leaves : (field : FieldId) (index value : List Node) (found : Option CodeFieldShape) →
        IsCovered code me mark (thread.at + 1) → Leaves marked this (after_put host thread field index value found)
    put_leaves field index value None next = (same, here, all)
    put_leaves field index value (Some there) next =
        either marked this (there.host.0 == host.me.0) _ _ (same, next, all) (same, tt, waits _ next)

    push_leaves : (entry : EntryId) (held : Option Token) → IsCovered code me mark (thread.at + 1) →
        Leaves marked this (after_own_push host thread entry held)
    push_leaves entry None next = (same, here, all)
    push_leaves entry (Some held) next = (same, next, all)

    ask_leaves : (entry : EntryId) (on : HostId) (held : Option Token) → IsCovered code me mark (thread.at + 1) →
        Leaves marked this (after_ask host thread entry on held)
    ask_leaves entry on None next = (same, here, all)
    ask_leaves entry on (Some held) next = (same, tt, waits _ next)

    go_leaves : (frame : FrameId) (entry : EntryId) (on : HostId) (held : Option Token) →
        Leaves marked this (after_go host thread frame entry on held)
    go_leaves frame entry on None = (same, here, all)
    go_leaves frame entry on (Some held) = (same, tt, all)

    go_with_leaves : (frame : FrameId) (entry : EntryId) (on : HostId) (riders : List VarId) (held : Option Token) →
        Leaves marked this (after_go_with host thread frame entry on riders held)
    go_with_leaves frame entry on riders None = (same, here, all)
    go_with_leaves frame entry on riders (Some held) = (same, tt, all)

    own_call_leaves : (found : Option Entry) →
        ((there : Entry) → found ≡ Some there → IsCovered code me mark there.at) →
        Leaves marked this (after_own_call host thread found)
    own_call_leaves None called = (same, here, all)
    own_call_leaves (Some there) called = (same, called there refl, all)

    call_on : (entry : EntryId) (on : HostId) (at_home : Bool) →
        (at_home ≡ true → (there : Entry) → entry_at code entry ≡ Some there → IsCovered code me mark there.at) →
        Leaves marked this (if at_home
        then after_own_call host thread (entry_at code entry)
        else after_go host thread thread.new_frame entry on thread.held)
    call_on entry on true called = own_call_leaves (entry_at code entry) (called refl)
    call_on entry on false called = go_leaves thread.new_frame entry on thread.held

    return_leaves : (variable : VarId) (value : List Node) (held : Option Token) (passes : Bool) →
        IsCovered code me mark (thread.at + 1) →
        Leaves marked this (after_return host thread variable value held passes)
    return_leaves variable value None passes next = (same, here, all)
    return_leaves variable value (Some held) passes next =
        either marked this (held.host.0 == host.me.0) _ _ (same, next, all)
        (either marked this passes _ _ (same, tt, waits _ next) (same, next, all))

    back_pops : (passes : Bool) → All (StackEntryFits code me) host.entries →
        Leaves marked (top_entry host.entries) (without_message (if passes
        then after_pop code (with_running host None) host.entries
        else with_one_ignored (with_running host None)))
    back_pops true fits = popped (with_running host None) host.entries waiting same refl all fits
    back_pops false fits = (same, tt, all)

    back_leaves : (held : Option Token) (passes : Bool) → IsSomeAnd held (TokenFits code) →
        All (StackEntryFits code me) host.entries →
        Leaves marked (top_entry host.entries) (after_back code host thread held passes)
    back_leaves None passes holds fits = absurd holds
    back_leaves (Some held) passes holds fits =
        either marked (top_entry host.entries) (held.host.0 == host.me.0) _ _ (back_pops passes fits) (same, tt, all)

    branch_leaves : (guard : List Node) (target : ℕ) → IsCovered code me mark target →
        IsCovered code me mark (thread.at + 1) → Leaves marked this (after_branch host thread guard target)
    branch_leaves guard target far next =
        either marked this (int_eq (value_in_thread host thread guard) _) _ _ (same, far, all) (same, next, all)

    module _ (one : Instr) (kept : AreNeedsKept code me) (is : instruction_at code me thread.at ≡ Some one)
        (fits : All (StackEntryFits code me) host.entries) (holds : IsSomeAnd thread.held (TokenFits code)) where
      goes : (next : ℕ) → Contains (goes_on one.op thread.at) next → IsCovered code me mark next
      goes next contains = covered_next code me mark thread.at next one is contains here

      called_here : (entry : EntryId) (on : HostId) → one.op ≡ op.Call entry on → IsEntryOn code on entry →
          (on.0 == host.me.0) ≡ true → (there : Entry) → entry_at code entry ≡ Some there →
          IsCovered code me mark there.at
      called_here entry on does enters at_home there found =
          let on_is : on ≡ me = same_host on host.me at_home ∙ same in
          let there_on : IsSomeAnd (Some there) (λ (t : Entry). t.host ≡ on) =
          subst (λ (o : Option Entry). IsSomeAnd o (λ t. t.host ≡ on)) found enters.1 in
          covered_called code me mark entry on there thread.at one kept is does enters.0 found (there_on ∙ on_is) here

      one_on : (does : Op) → one.op ≡ does → Contains (goes_on does thread.at) (thread.at + 1) →
          IsCovered code me mark (thread.at + 1)
      one_on does same_op contains =
          goes (thread.at + 1) (subst (λ (o : Op). Contains (goes_on o thread.at) (thread.at + 1)) (sym same_op)
          contains)

      next_in : Contains ((thread.at + 1) ∷ []) (thread.at + 1)
      next_in = Contains-push [] (thread.at + 1)

      pub operation_leaves : (does : Op) (passes : Bool) (count : ℕ) → one.op ≡ does →
          OperationFits code me count does →
          Leaves marked (mark_behind host.entries this does) (after_operation code host thread does passes)
      operation_leaves (op.Read field index) passes count does names =
          read_leaves field index (field_at code field) (one_on (op.Read field index) does next_in)
      operation_leaves (op.Let variable value) passes count does names =
          (same, one_on (op.Let variable value) does next_in, all)
      operation_leaves (op.Put field index value) passes count does names =
          put_leaves field index value (field_at code field) (one_on (op.Put field index value) does next_in)
      operation_leaves (op.Send variable to) passes count does names =
          (same, tt, waits _ (one_on (op.Send variable to) does next_in))
      operation_leaves (op.Frame site) passes count does names = (same, one_on (op.Frame site) does next_in, all)
      operation_leaves (op.Arg variable value) passes count does names =
          (same, one_on (op.Arg variable value) does next_in, all)
      operation_leaves (op.Pass variable to) passes count does names =
          (same, tt, waits _ (one_on (op.Pass variable to) does next_in))
      operation_leaves (op.Push entry) passes count does names =
          push_leaves entry thread.held (one_on (op.Push entry) does next_in)
      operation_leaves (op.Ask entry on) passes count does names =
          ask_leaves entry on thread.held (one_on (op.Ask entry on) does next_in)
      operation_leaves (op.Go entry on) passes count does names = go_leaves thread.frame entry on thread.held
      operation_leaves (op.Call entry on) passes count does names =
          call_on entry on (on.0 == host.me.0) (called_here entry on does names.0)
      operation_leaves (op.Ret variable value) passes count does names =
          return_leaves variable value thread.held passes (one_on (op.Ret variable value) does next_in)
      operation_leaves op.Back passes count does names = back_leaves thread.held passes holds fits
      operation_leaves (op.Branch guard target) passes count does names =
          branch_leaves guard target
          (goes target (subst (λ (o : Op). Contains (goes_on o thread.at) target) (sym does)
          (Contains-append_left (target ∷ []) ((thread.at + 1) ∷ []) target (Contains-push [] target))))
          (one_on (op.Branch guard target) does (Contains-push (target ∷ []) (thread.at + 1)))
      operation_leaves (op.GoWith entry on riders) passes count does names =
          go_with_leaves thread.frame entry on riders thread.held
      operation_leaves (op.CallWith entry on riders) passes count does names =
          go_with_leaves thread.new_frame entry on riders thread.held

  -- ---- a message

  -- an entry of the host, of which more is known
  at_home : (own : HostId) (found : Option Entry) (P Q : Entry → Type 0) → own ≡ me →
      IsSomeAnd found (λ there. (there.host ≡ own) × P there × Q there) → IsSomeAnd found (λ there. there.host ≡ me)
  at_home own None P Q same on = on
  at_home own (Some there) P Q same on = on.0 ∙ same

  riders_keep : (host : HostState) (frame : FrameId) (riders : List Rider) →
      ((with_variables_set host frame riders).me ≡ host.me)
      × ((with_variables_set host frame riders).waiting ≡ host.waiting)
  riders_keep host frame [] = (refl, refl)
  riders_keep host frame (rider ∷ riders) = riders_keep (with_variable_set host frame rider.0 rider.1) frame riders

  answered : (host : HostState) (marks : Marks) (place : ℕ) (wake : ThreadShape → ThreadShape)
      (found : Option WaitingShape) → ((thread : ThreadShape) → (wake thread).at ≡ thread.at) →
      slice_get host.waiting place ≡ found → AreMarked code me marks.waiting host.waiting →
      IsMarked code me (option_map (λ (waiting : WaitingShape). wake waiting.thread) found)
      (slice_get marks.waiting place)
  answered host marks place wake None stays is all = tt
  answered host marks place wake (Some waiting) stays is all =
      let mark = marked_at code me place marks.waiting host.waiting waiting all is in
      subst (λ (o : Option EntryId). IsMarked code me (Some (wake waiting.thread)) o) (sym mark.1)
      (subst (IsCovered code me mark.0) (sym (stays waiting.thread)) mark.2)

  answer_leaves : (host : HostState) (marks : Marks) (found : Option ℕ) (wake : ThreadShape → ThreadShape) →
      ((thread : ThreadShape) → (wake thread).at ≡ thread.at) → Stands code me host marks →
      Stands code me (after_answer host found wake) (marks_answered marks found)
  answer_leaves host marks None wake stays stands = stands
  answer_leaves host marks (Some place) wake stays stands = (
    stands.0,
    answered host marks place wake (slice_get host.waiting place) stays refl stands.2,
    marked_remove code me place marks.waiting host.waiting stands.2,
  )

  pub message_leaves : (host : HostState) (marks : Marks) (from : HostId) (letter : Message) →
      Stands code me host marks →
      host.running ≡ None → All (StackEntryFits code me) host.entries → PassesCheck code host from letter →
      Stands code me (after_passing code host from letter).state
      (marks_after_message host from letter (after_passing code host from letter) marks)
  message_leaves host marks from (message.Get request field index) stands rests fits passes = stands
  message_leaves host marks from (message.Set request field index value) stands rests fits passes = stands
  message_leaves host marks from (message.Forward request frame variable value) stands rests fits passes = stands
  message_leaves host marks from (message.Sync request frame entry token) stands rests fits passes = stands
  message_leaves host marks from (message.Rgoto frame entry token) stands rests fits passes =
      entered host entry frame token marks.waiting (entry_at code entry) refl stands.0 stands.2 passes.0
      (at_home host.me (entry_at code entry) _ _ stands.0 passes.1)
  message_leaves host marks from (message.RgotoWith frame entry token riders) stands rests fits passes =
      let keeps = riders_keep host frame riders in
      entered (with_variables_set host frame riders) entry frame token marks.waiting (entry_at code entry) refl
      (keeps.0 ∙ stands.0) (subst (AreMarked code me marks.waiting) (sym keeps.1) stands.2) passes.0.0
      (at_home host.me (entry_at code entry) _ _ stands.0 passes.0.1)
  message_leaves host marks from (message.Lgoto token) stands rests fits passes =
      popped host host.entries marks.waiting stands.0 rests stands.2 fits
  message_leaves host marks from (message.Value request value) stands rests fits passes =
      answer_leaves host marks (place_of_awaiting host value_of_field request from) (with_temporary value)
      (λ thread. refl) stands
  message_leaves host marks from (message.Ack request) stands rests fits passes =
      answer_leaves host marks (place_of_awaiting host acknowledgement request from) (λ thread. thread)
      (λ thread. refl) stands
  message_leaves host marks from (message.Token request token) stands rests fits passes =
      answer_leaves host marks (place_of_awaiting host token_of_entry request from) (with_token (Some token))
      (λ thread. refl) stands

  -- a message that is ignored
  ignored_answer : (host : HostState) (marks : Marks) (found : Option ℕ) → ¬ IsSome found → Stands code me host marks →
      Stands code me (with_one_ignored host) (marks_answered marks found)
  ignored_answer host marks None none stands = stands
  ignored_answer host marks (Some place) none stands = absurd (none refl)

  ignored_leaves : (host : HostState) (marks : Marks) (from : HostId) (letter : Message) → Stands code me host marks →
      host.running ≡ None → ¬ PassesCheck code host from letter →
      Stands code me (with_one_ignored host)
      (marks_after_message host from letter (without_message (with_one_ignored host)) marks)
  ignored_leaves host marks from (message.Get request field index) stands rests fails = stands
  ignored_leaves host marks from (message.Set request field index value) stands rests fails = stands
  ignored_leaves host marks from (message.Forward request frame variable value) stands rests fails = stands
  ignored_leaves host marks from (message.Sync request frame entry token) stands rests fails = stands
  ignored_leaves host marks from (message.Rgoto frame entry token) stands rests fails =
      (stands.0, at_rest code me host.running _ rests, stands.2)
  ignored_leaves host marks from (message.RgotoWith frame entry token riders) stands rests fails =
      (stands.0, at_rest code me host.running _ rests, stands.2)
  ignored_leaves host marks from (message.Lgoto token) stands rests fails =
      (stands.0, at_rest code me host.running _ rests, stands.2)
  ignored_leaves host marks from (message.Value request value) stands rests fails =
      ignored_answer host marks (place_of_awaiting host value_of_field request from) fails stands
  ignored_leaves host marks from (message.Ack request) stands rests fails =
      ignored_answer host marks (place_of_awaiting host acknowledgement request from) fails stands
  ignored_leaves host marks from (message.Token request token) stands rests fails =
      ignored_answer host marks (place_of_awaiting host token_of_entry request from) fails stands

  pub taking_leaves : (host : HostState) (marks : Marks) (from : HostId) (letter : Message) (passes : Bool) →
      Stands code me host marks → host.running ≡ None → All (StackEntryFits code me) host.entries →
      (IsTrue passes ↔ PassesCheck code host from letter) →
      Stands code me (after_taking code host from letter passes).state
      (marks_after_message host from letter (after_taking code host from letter passes) marks)
  taking_leaves host marks from letter true stands rests fits check =
      message_leaves host marks from letter stands rests fits (check.0 refl)
  taking_leaves host marks from letter false stands rests fits check =
      ignored_leaves host marks from letter stands rests (λ passes. false≢true (check.1 passes))
