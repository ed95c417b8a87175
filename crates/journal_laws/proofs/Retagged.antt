-- A host whose tokens have other tags makes the same steps, for the same truth values. Where it makes a token of its
-- own, the tag that stands for that of the host is the one that it makes.
use Rattle.std.proofs.Common.{◌≡◌, ℕ, Bool, true, false, refl, ap, sym, List, [], ◌∷◌, ◌++◌}
use Rattle.std.proofs.lemmas.List.{length-map}
use Rattle.std.proofs.lemmas.Option.{slice_get-map}
use Rattle.std.specs.List.{prefix_len}
use Rattle.std.specs.Prelude.{◌==◌, ◌+◌, Option, Some, None, map, not, cond, slice_get, remove, position, pos}
use Rattle.std.specs.Prelude.{slice_index, slice_set, filter}
use Rattle.std.specs.Option.{option_map}
use Rattle.std.specs.Ordering.{int_eq}
use Rattle.js_base.specs.declared.ids.HostId.{HostId}
use Rattle.js_base.specs.declared.ids.FieldId.{FieldId}
use Rattle.js_base.specs.declared.ids.FrameId.{FrameId}
use Rattle.js_base.specs.declared.ids.VarId.{VarId}
use Rattle.js_base.specs.declared.ids.EntryId.{EntryId}
use Rattle.js_base.specs.declared.ids.RequestId.{RequestId}
use Rattle.capability.specs.declared.token.Token.{Token}
use Rattle.capability.specs.Tag.{tag_of}
use Rattle.ics_stack.specs.declared.stack.StackEntry.{StackEntry}
use Rattle.host_code.specs.declared.code.Entry.{Entry}
use Rattle.host_code.specs.declared.code_expr.Node.{Node}
use Rattle.host_code.specs.declared.instruction.Instr.{Instr}
use Rattle.host_code.specs.declared.instruction.Op.{Op}
use Rattle.host_code.specs.declared.instruction.Op.TheVariants as op
use Rattle.host_code.specs.declared.message.Message.{Message}
use Rattle.host_code.specs.declared.message.Message.TheVariants as message
use Rattle.host_code.specs.Riders.{Rider}
use Rattle.host_code.specs.Thread.{ThreadShape, WaitingShape, Awaited}
use Rattle.host_code.specs.Thread.Awaited.{value_of_field, acknowledgement, token_of_entry}
use Rattle.host_code.specs.Code.{CodeShape, CodeFieldShape, entry_at, field_at, halt, instruction_at}
use Rattle.host_core.specs.Awaiting.{awaits}
use Rattle.host_core.specs.Host.{HostState, Outcome, after_asking, after_entering, after_pop, next_request, new_token}
use Rattle.host_core.specs.Host.{with_running, with_variable_set, with_variables_set, with_temporary, with_token}
use Rattle.host_core.specs.Host.{value_in_thread, after_step}
use Rattle.host_core.specs.Taking.{after_taking, after_passing, after_answer, place_of_awaiting}
use Rattle.host_core.specs.Turn.{after_operation, after_read, after_put, after_branch, after_own_push, after_ask}
use Rattle.host_core.specs.Turn.{after_go, after_go_with, after_own_call, after_call, after_return, after_back}
use Rattle.journal_laws.specs.Bare.{bare_entry, bare_host, bare_message, bare_sent, bare_thread, bare_token}
use Rattle.journal_laws.specs.Bare.{bare_waiting}
use Rattle.journal_laws.specs.Steps.{Step, turns, takes, told_step, after_turn, after_running}
use Rattle.journal_laws.proofs.BareTakings.{remove_map}
use Rattle.journal_laws.proofs.WithoutHalt.{is_lasting, without_halt}

-- ---- other tags

abbrev pub tagged : (Token → List ℕ) → Token → Token
tagged tags token = record token { tag = tags token }

abbrev pub tagged_message : (Token → List ℕ) → Message → Message
tagged_message tags (message.Get request field index) = message.Get request field index
tagged_message tags (message.Set request field index value) = message.Set request field index value
tagged_message tags (message.Forward request frame variable value) = message.Forward request frame variable value
tagged_message tags (message.Sync request frame entry token) = message.Sync request frame entry (tagged tags token)
tagged_message tags (message.Rgoto frame entry token) = message.Rgoto frame entry (tagged tags token)
tagged_message tags (message.RgotoWith frame entry token riders) =
    message.RgotoWith frame entry (tagged tags token) riders
tagged_message tags (message.Lgoto token) = message.Lgoto (tagged tags token)
tagged_message tags (message.Value request value) = message.Value request value
tagged_message tags (message.Ack request) = message.Ack request
tagged_message tags (message.Token request token) = message.Token request (tagged tags token)

abbrev pub tagged_thread : (Token → List ℕ) → ThreadShape → ThreadShape
tagged_thread tags thread = record thread { held = option_map (tagged tags) thread.held }

abbrev pub tagged_waiting : (Token → List ℕ) → WaitingShape → WaitingShape
tagged_waiting tags waiting = record waiting { thread = tagged_thread tags waiting.thread }

abbrev pub tagged_entry : (Token → List ℕ) → StackEntry → StackEntry
tagged_entry tags entry = record entry { token = tagged tags entry.token; kept = tagged tags entry.kept }

abbrev pub tagged_sent : (Token → List ℕ) → Option (HostId × Message) → Option (HostId × Message)
tagged_sent tags None = None
tagged_sent tags (Some sent) = Some (sent.0, tagged_message tags sent.1)

abbrev pub tagged_step : (Token → List ℕ) → Step → Step
tagged_step tags turns = turns
tagged_step tags (takes from letter) = takes from (tagged_message tags letter)

-- the host with these tags and this key, where so many messages were ignored, and halted or not
abbrev pub cast : (Token → List ℕ) → List ℕ → ℕ → Bool → HostState → HostState
cast tags key ignored halted host = record host {
  key = key;
  running = option_map (tagged_thread tags) host.running;
  waiting = map (tagged_waiting tags) host.waiting;
  entries = map (tagged_entry tags) host.entries;
  ignored = ignored;
  halted = halted;
}

-- a token that is made with one key has the tag that is made with the other
abbrev pub HasTags : (Token → List ℕ) → List ℕ → List ℕ → Type 0
HasTags tags own key = (host : HostId) (frame : FrameId) (entry : EntryId) (serial : ℕ) →
    tags (record {
      host = host;
      frame = frame;
      entry = entry;
      serial = serial;
      tag = tag_of own host frame entry serial;
    }) ≡ tag_of key host frame entry serial

-- the state is the other one with these tags
abbrev pub IsCast : (Token → List ℕ) → List ℕ → HostState → HostState → Type 0
IsCast tags key after host = (ignored : ℕ) × (halted : Bool) × (after ≡ cast tags key ignored halted host)

abbrev pub AreCast : (Token → List ℕ) → List ℕ → Outcome → Outcome → Type 0
AreCast tags key after outcome =
    IsCast tags key after.state outcome.state × (after.sent ≡ tagged_sent tags outcome.sent)

-- ---- bare hosts lose these tags

option_bare : (tags : Token → List ℕ) (held : Option Token) →
    option_map bare_token (option_map (tagged tags) held) ≡ option_map bare_token held
option_bare tags None = refl
option_bare tags (Some token) = refl

thread_bare : (tags : Token → List ℕ) (thread : ThreadShape) →
    bare_thread (tagged_thread tags thread) ≡ bare_thread thread
thread_bare tags thread = rw (option_bare tags thread.held) refl

running_bare : (tags : Token → List ℕ) (running : Option ThreadShape) →
    option_map bare_thread (option_map (tagged_thread tags) running) ≡ option_map bare_thread running
running_bare tags None = refl
running_bare tags (Some thread) = ap Some (thread_bare tags thread)

waiting_bare : (tags : Token → List ℕ) (waiting : List WaitingShape) →
    map bare_waiting (map (tagged_waiting tags) waiting) ≡ map bare_waiting waiting
waiting_bare tags [] = refl
waiting_bare tags (first ∷ waiting) =
    rw (thread_bare tags first.thread) (rw (waiting_bare tags waiting) refl)

entries_bare : (tags : Token → List ℕ) (entries : List StackEntry) →
    map bare_entry (map (tagged_entry tags) entries) ≡ map bare_entry entries
entries_bare tags [] = refl
entries_bare tags (top ∷ below) = ap (λ rest. bare_entry top ∷ rest) (entries_bare tags below)

pub cast_bare : (tags : Token → List ℕ) (key : List ℕ) (ignored : ℕ) (halted : Bool) (host : HostState) →
    bare_host (cast tags key ignored halted host) ≡ bare_host host
cast_bare tags key ignored halted host =
    rw (running_bare tags host.running)
    (rw (waiting_bare tags host.waiting)
    (rw (entries_bare tags host.entries) refl))

pub message_bare : (tags : Token → List ℕ) (letter : Message) →
    bare_message (tagged_message tags letter) ≡ bare_message letter
message_bare tags (message.Get request field index) = refl
message_bare tags (message.Set request field index value) = refl
message_bare tags (message.Forward request frame variable value) = refl
message_bare tags (message.Sync request frame entry token) = refl
message_bare tags (message.Rgoto frame entry token) = refl
message_bare tags (message.RgotoWith frame entry token riders) = refl
message_bare tags (message.Lgoto token) = refl
message_bare tags (message.Value request value) = refl
message_bare tags (message.Ack request) = refl
message_bare tags (message.Token request token) = refl

pub sent_bare : (tags : Token → List ℕ) (sent : Option (HostId × Message)) →
    bare_sent (tagged_sent tags sent) ≡ bare_sent sent
sent_bare tags None = refl
sent_bare tags (Some sent) =
    ap (λ letter. let told : Option (HostId × Message) = Some (sent.0, letter) in told) (message_bare tags sent.1)

-- ---- the entry that ends the program

one_without : (tags : Token → List ℕ) (top : StackEntry) (below : List StackEntry) (lasts : Bool) →
    is_lasting top ≡ lasts →
    filter is_lasting (map (tagged_entry tags) below) ≡ map (tagged_entry tags) (filter is_lasting below) →
    filter is_lasting (map (tagged_entry tags) (top ∷ below))
    ≡ map (tagged_entry tags) (filter is_lasting (top ∷ below))
one_without tags top below true is same = rw is (ap (λ rest. tagged_entry tags top ∷ rest) same)
one_without tags top below false is same = rw is same

pub entries_without : (tags : Token → List ℕ) (entries : List StackEntry) →
    filter is_lasting (map (tagged_entry tags) entries) ≡ map (tagged_entry tags) (filter is_lasting entries)
entries_without tags [] = refl
entries_without tags (top ∷ below) =
    one_without tags top below (is_lasting top) refl (entries_without tags below)

pub cast_without : (tags : Token → List ℕ) (key : List ℕ) (ignored : ℕ) (halted : Bool) (host : HostState) →
    without_halt (cast tags key ignored halted host) ≡ cast tags key ignored halted (without_halt host)
cast_without tags key ignored halted host =
    ap (λ entries. record (cast tags key ignored halted host) { entries = entries }) (entries_without tags host.entries)

-- ---- steps

module _ (tags : Token → List ℕ) (key : List ℕ) where
  -- what is left of the host as it was, with a change of what has no token
  abbrev Left : HostState → HostState → Type 0
  Left after host = IsCast tags key after host

  entered : (ignored : ℕ) (halted : Bool) (host : HostState) (found : Option Entry) (frame : FrameId) (token : Token) →
      Left (after_entering (cast tags key ignored halted host) found frame (tagged tags token))
      (after_entering host found frame token)
  entered ignored halted host None frame token = (ignored, halted, refl)
  entered ignored halted host (Some entry) frame token = (ignored, halted, refl)

  pub popped : (code : CodeShape) (ignored : ℕ) (halted : Bool) (host : HostState) (entries : List StackEntry) →
      Left (after_pop code (cast tags key ignored halted host) (map (tagged_entry tags) entries))
      (after_pop code host entries)
  popped code ignored halted host [] = (ignored, halted, refl)
  popped code ignored halted host (top ∷ below) = by (top.entry.0 == halt.0) refl
    where
      left : HostState
      left = record host { entries = below }

      by : (ends : Bool) → (top.entry.0 == halt.0) ≡ ends →
          Left (after_pop code (cast tags key ignored halted host) (map (tagged_entry tags) (top ∷ below)))
          (after_pop code host (top ∷ below))
      by true is = rw is (ignored, true, refl)
      by false is = rw is (entered ignored halted left (entry_at code top.entry) top.frame top.kept)

  appended : (waiting : List WaitingShape) (one : WaitingShape) →
      map (tagged_waiting tags) waiting ++ tagged_waiting tags one ∷ []
      ≡ map (tagged_waiting tags) (waiting ++ one ∷ [])
  appended [] one = refl
  appended (first ∷ waiting) one = ap (λ rest. tagged_waiting tags first ∷ rest) (appended waiting one)

  asked : (ignored : ℕ) (halted : Bool) (host : HostState) (at : ℕ) (thread : ThreadShape) (awaited : Awaited)
      (on : HostId) →
      after_asking (cast tags key ignored halted host) at (tagged_thread tags thread) awaited on
      ≡ cast tags key ignored halted (after_asking host at thread awaited on)
  asked ignored halted host at thread awaited on =
      let asks : List WaitingShape → HostState = λ waiting. record (cast tags key ignored halted host) {
        running = None;
        waiting = waiting;
        requests = slice_set host.requests at (slice_index host.requests at + 1);
      } in
      ap asks (appended host.waiting
      (record { thread = thread; awaited = awaited; request = next_request host at; asked = on }))

  read_cast : (ignored : ℕ) (halted : Bool) (host : HostState) (thread : ThreadShape) (field : FieldId)
      (index : List Node) (there : Option CodeFieldShape) →
      AreCast tags key
      (after_read (cast tags key ignored halted host) (tagged_thread tags thread) field index there)
      (after_read host thread field index there)
  read_cast ignored halted host thread field index None = ((ignored, halted, refl), refl)
  read_cast ignored halted host thread field index (Some there) = by (there.host.0 == host.me.0) refl
    where
      by : (own : Bool) → (there.host.0 == host.me.0) ≡ own →
          AreCast tags key
          (after_read (cast tags key ignored halted host) (tagged_thread tags thread) field index (Some there))
          (after_read host thread field index (Some there))
      by true is = rw is ((ignored, halted, refl), refl)
      by false is = rw is (
        (
          ignored,
          halted,
          asked ignored halted host thread.at (after_step thread) value_of_field
              there.host,
        ),
        refl,
      )

  put_cast : (ignored : ℕ) (halted : Bool) (host : HostState) (thread : ThreadShape) (field : FieldId)
      (index value : List Node) (there : Option CodeFieldShape) →
      AreCast tags key
      (after_put (cast tags key ignored halted host) (tagged_thread tags thread) field index value there)
      (after_put host thread field index value there)
  put_cast ignored halted host thread field index value None = ((ignored, halted, refl), refl)
  put_cast ignored halted host thread field index value (Some there) = by (there.host.0 == host.me.0) refl
    where
      by : (own : Bool) → (there.host.0 == host.me.0) ≡ own →
          AreCast tags key
          (after_put (cast tags key ignored halted host) (tagged_thread tags thread) field index value (Some there))
          (after_put host thread field index value (Some there))
      by true is = rw is ((ignored, halted, refl), refl)
      by false is = rw is (
        (
          ignored,
          halted,
          asked ignored halted host thread.at
              (record thread { at = thread.at + 1; temporaries = [] }) acknowledgement there.host,
        ),
        refl,
      )

  branch_cast : (ignored : ℕ) (halted : Bool) (host : HostState) (thread : ThreadShape) (guard : List Node)
      (target : ℕ) →
      AreCast tags key (after_branch (cast tags key ignored halted host) (tagged_thread tags thread) guard target)
      (after_branch host thread guard target)
  branch_cast ignored halted host thread guard target = by (int_eq (value_in_thread host thread guard) (pos 0)) refl
    where
      by : (none : Bool) → int_eq (value_in_thread host thread guard) (pos 0) ≡ none →
          AreCast tags key (after_branch (cast tags key ignored halted host) (tagged_thread tags thread) guard target)
          (after_branch host thread guard target)
      by true is = rw is ((ignored, halted, refl), refl)
      by false is = rw is ((ignored, halted, refl), refl)

  ask_cast : (ignored : ℕ) (halted : Bool) (host : HostState) (thread : ThreadShape) (entry : EntryId) (on : HostId)
      (held : Option Token) →
      AreCast tags key
      (after_ask (cast tags key ignored halted host) (tagged_thread tags thread) entry on
      (option_map (tagged tags) held))
      (after_ask host thread entry on held)
  ask_cast ignored halted host thread entry on None = ((ignored, halted, refl), refl)
  ask_cast ignored halted host thread entry on (Some held) = (
    (ignored, halted, asked ignored halted host thread.at (with_token None (after_step thread)) token_of_entry on),
    refl,
  )

  go_cast : (ignored : ℕ) (halted : Bool) (host : HostState) (thread : ThreadShape) (frame : FrameId)
      (entry : EntryId) (on : HostId) (held : Option Token) →
      AreCast tags key
      (after_go (cast tags key ignored halted host) (tagged_thread tags thread) frame entry on
      (option_map (tagged tags) held)) (after_go host thread frame entry on held)
  go_cast ignored halted host thread frame entry on None = ((ignored, halted, refl), refl)
  go_cast ignored halted host thread frame entry on (Some held) = ((ignored, halted, refl), refl)

  go_with_cast : (ignored : ℕ) (halted : Bool) (host : HostState) (thread : ThreadShape) (frame : FrameId)
      (entry : EntryId) (on : HostId) (variables : List VarId) (held : Option Token) →
      AreCast tags key
      (after_go_with (cast tags key ignored halted host) (tagged_thread tags thread) frame entry on variables
      (option_map (tagged tags) held)) (after_go_with host thread frame entry on variables held)
  go_with_cast ignored halted host thread frame entry on variables None = ((ignored, halted, refl), refl)
  go_with_cast ignored halted host thread frame entry on variables (Some held) = ((ignored, halted, refl), refl)

  own_call_cast : (ignored : ℕ) (halted : Bool) (host : HostState) (thread : ThreadShape) (there : Option Entry) →
      AreCast tags key (after_own_call (cast tags key ignored halted host) (tagged_thread tags thread) there)
      (after_own_call host thread there)
  own_call_cast ignored halted host thread None = ((ignored, halted, refl), refl)
  own_call_cast ignored halted host thread (Some there) = ((ignored, halted, refl), refl)

  call_cast : (code : CodeShape) (ignored : ℕ) (halted : Bool) (host : HostState) (thread : ThreadShape)
      (entry : EntryId) (on : HostId) →
      AreCast tags key (after_call code (cast tags key ignored halted host) (tagged_thread tags thread) entry on)
      (after_call code host thread entry on)
  call_cast code ignored halted host thread entry on = by (on.0 == host.me.0) refl
    where
      by : (own : Bool) → (on.0 == host.me.0) ≡ own →
          AreCast tags key (after_call code (cast tags key ignored halted host) (tagged_thread tags thread) entry on)
          (after_call code host thread entry on)
      by true is = rw is (own_call_cast ignored halted host thread (entry_at code entry))
      by false is = rw is (go_cast ignored halted host thread thread.new_frame entry on thread.held)

  return_cast : (ignored : ℕ) (halted : Bool) (host : HostState) (thread : ThreadShape) (variable : VarId)
      (value : List Node) (held : Option Token) (passes : Bool) →
      AreCast tags key
      (after_return (cast tags key ignored halted host) (tagged_thread tags thread) variable value
      (option_map (tagged tags) held) passes) (after_return host thread variable value held passes)
  return_cast ignored halted host thread variable value None passes = ((ignored, halted, refl), refl)
  return_cast ignored halted host thread variable value (Some held) passes = by (held.host.0 == host.me.0) refl passes
    where
      by : (own : Bool) → (held.host.0 == host.me.0) ≡ own → (may : Bool) →
          AreCast tags key
          (after_return (cast tags key ignored halted host) (tagged_thread tags thread) variable value
          (Some (tagged tags held)) may) (after_return host thread variable value (Some held) may)
      by true is may = rw is ((ignored, halted, refl), refl)
      by false is true = rw is (
        (
          ignored,
          halted,
          asked ignored halted host thread.at
              (record thread { at = thread.at + 1; temporaries = [] }) acknowledgement held.host,
        ),
        refl,
      )
      by false is false = rw is ((ignored, halted, refl), refl)

  back_cast : (code : CodeShape) (ignored : ℕ) (halted : Bool) (host : HostState) (thread : ThreadShape)
      (held : Option Token) (passes : Bool) →
      AreCast tags key
      (after_back code (cast tags key ignored halted host) (tagged_thread tags thread) (option_map (tagged tags) held)
      passes) (after_back code host thread held passes)
  back_cast code ignored halted host thread None passes = ((ignored, halted, refl), refl)
  back_cast code ignored halted host thread (Some held) passes = by (held.host.0 == host.me.0) refl passes
    where
      by : (own : Bool) → (held.host.0 == host.me.0) ≡ own → (may : Bool) →
          AreCast tags key
          (after_back code (cast tags key ignored halted host) (tagged_thread tags thread)
          (Some (tagged tags held)) may) (after_back code host thread (Some held) may)
      by true is true = rw is (popped code ignored halted (with_running host None) host.entries, refl)
      by true is false = rw is ((ignored + 1, halted, refl), refl)
      by false is may = rw is ((ignored, halted, refl), refl)

  token_made : (ignored : ℕ) (halted : Bool) (host : HostState) (entry : EntryId) (frame : FrameId) →
      HasTags tags host.key key →
      new_token (cast tags key ignored halted host) entry frame ≡ tagged tags (new_token host entry frame)
  token_made ignored halted host entry frame made =
      ap (λ tag. record (new_token host entry frame) { tag = tag })
      (sym (made host.me frame entry (slice_index host.serials entry.0)))

  push_cast : (ignored : ℕ) (halted : Bool) (host : HostState) (thread : ThreadShape) (entry : EntryId)
      (held : Option Token) → HasTags tags host.key key →
      AreCast tags key
      (after_own_push (cast tags key ignored halted host) (tagged_thread tags thread) entry
      (option_map (tagged tags) held))
      (after_own_push host thread entry held)
  push_cast ignored halted host thread entry None made = ((ignored, halted, refl), refl)
  push_cast ignored halted host thread entry (Some held) made =
      let pushed : Token → HostState = λ token. record (cast tags key ignored halted host) {
        running = Some (with_token (Some token) (after_step thread));
        entries = record { token = token; entry = entry; frame = thread.frame; kept = tagged tags held }
            ∷ map (tagged_entry tags) host.entries;
        serials = slice_set host.serials entry.0 (slice_index host.serials entry.0 + 1);
      } in
      ((ignored, halted, ap pushed (token_made ignored halted host entry thread.frame made)), refl)

  pub runs_cast : (code : CodeShape) (ignored : ℕ) (halted : Bool) (host : HostState) (thread : ThreadShape)
      (operation : Op) (passes : Bool) → HasTags tags host.key key →
      AreCast tags key
      (after_operation code (cast tags key ignored halted host) (tagged_thread tags thread) operation passes)
      (after_operation code host thread operation passes)
  runs_cast code ignored halted host thread (op.Read field index) passes made =
      read_cast ignored halted host thread field index (field_at code field)
  runs_cast code ignored halted host thread (op.Let variable value) passes made = ((ignored, halted, refl), refl)
  runs_cast code ignored halted host thread (op.Put field index value) passes made =
      put_cast ignored halted host thread field index value (field_at code field)
  runs_cast code ignored halted host thread (op.Send variable to) passes made =
      ((ignored, halted, asked ignored halted host thread.at (after_step thread) acknowledgement to), refl)
  runs_cast code ignored halted host thread (op.Frame site) passes made = ((ignored, halted, refl), refl)
  runs_cast code ignored halted host thread (op.Arg variable value) passes made = ((ignored, halted, refl), refl)
  runs_cast code ignored halted host thread (op.Pass variable to) passes made =
      ((ignored, halted, asked ignored halted host thread.at (after_step thread) acknowledgement to), refl)
  runs_cast code ignored halted host thread (op.Push entry) passes made =
      push_cast ignored halted host thread entry thread.held made
  runs_cast code ignored halted host thread (op.Ask entry on) passes made =
      ask_cast ignored halted host thread entry on thread.held
  runs_cast code ignored halted host thread (op.Go entry on) passes made =
      go_cast ignored halted host thread thread.frame entry on thread.held
  runs_cast code ignored halted host thread (op.GoWith entry on riders) passes made =
      go_with_cast ignored halted host thread thread.frame entry on riders thread.held
  runs_cast code ignored halted host thread (op.Call entry on) passes made =
      call_cast code ignored halted host thread entry on
  runs_cast code ignored halted host thread (op.CallWith entry on riders) passes made =
      go_with_cast ignored halted host thread thread.new_frame entry on riders thread.held
  runs_cast code ignored halted host thread (op.Ret variable value) passes made =
      return_cast ignored halted host thread variable value thread.held passes
  runs_cast code ignored halted host thread op.Back passes made =
      back_cast code ignored halted host thread thread.held passes
  runs_cast code ignored halted host thread (op.Branch guard target) passes made =
      branch_cast ignored halted host thread guard target

  -- ---- messages

  riders_cast : (ignored : ℕ) (halted : Bool) (host : HostState) (frame : FrameId) (riders : List Rider) →
      with_variables_set (cast tags key ignored halted host) frame riders
      ≡ cast tags key ignored halted (with_variables_set host frame riders)
  riders_cast ignored halted host frame [] = refl
  riders_cast ignored halted host frame (rider ∷ riders) =
      riders_cast ignored halted (with_variable_set host frame rider.0 rider.1) frame riders

  prefix_cast : (awaited : Awaited) (request : RequestId) (from : HostId) (waiting : List WaitingShape) →
      prefix_len (λ one. not (awaits awaited request from one)) (map (tagged_waiting tags) waiting)
      ≡ prefix_len (λ one. not (awaits awaited request from one)) waiting
  prefix_cast awaited request from [] = refl
  prefix_cast awaited request from (first ∷ others) =
      ap (λ count. cond (not (awaits awaited request from first)) (1 + count) 0)
      (prefix_cast awaited request from others)

  position_cast : (awaited : Awaited) (request : RequestId) (from : HostId) (waiting : List WaitingShape) →
      position (awaits awaited request from) (map (tagged_waiting tags) waiting)
      ≡ position (awaits awaited request from) waiting
  position_cast awaited request from waiting =
      rw (prefix_cast awaited request from waiting) (rw (length-map waiting (tagged_waiting tags)) refl)

  woken : (answered other : ThreadShape → ThreadShape) →
      ((thread : ThreadShape) → other (tagged_thread tags thread) ≡ tagged_thread tags (answered thread)) →
      (found : Option WaitingShape) →
      option_map (λ waiting. other waiting.thread) (option_map (tagged_waiting tags) found)
      ≡ option_map (tagged_thread tags) (option_map (λ waiting. answered waiting.thread) found)
  woken answered other same None = refl
  woken answered other same (Some waiting) = ap Some (same waiting.thread)

  answer_cast : (ignored : ℕ) (halted : Bool) (host : HostState) (place : Option ℕ)
      (answered other : ThreadShape → ThreadShape) →
      ((thread : ThreadShape) → other (tagged_thread tags thread) ≡ tagged_thread tags (answered thread)) →
      after_answer (cast tags key ignored halted host) place other
      ≡ cast tags key ignored halted (after_answer host place answered)
  answer_cast ignored halted host None answered other same = refl
  answer_cast ignored halted host (Some place) answered other same =
      rw (slice_get-map (tagged_waiting tags) host.waiting place)
      (rw (remove_map (tagged_waiting tags) host.waiting place)
      (ap (λ running. record (cast tags key ignored halted (record host { waiting = remove host.waiting place })) {
        running = running;
      }) (woken answered other same (slice_get host.waiting place))))

  answered_cast : (ignored : ℕ) (halted : Bool) (host : HostState) (awaited : Awaited) (request : RequestId)
      (from : HostId) (answered other : ThreadShape → ThreadShape) →
      ((thread : ThreadShape) → other (tagged_thread tags thread) ≡ tagged_thread tags (answered thread)) →
      after_answer (cast tags key ignored halted host)
      (place_of_awaiting (cast tags key ignored halted host) awaited request from) other
      ≡ cast tags key ignored halted (after_answer host (place_of_awaiting host awaited request from) answered)
  answered_cast ignored halted host awaited request from answered other same =
      rw (position_cast awaited request from host.waiting)
      (answer_cast ignored halted host (place_of_awaiting host awaited request from) answered other same)

  sync_cast : (code : CodeShape) (ignored : ℕ) (halted : Bool) (host : HostState) (from : HostId)
      (request : RequestId) (frame : FrameId) (entry : EntryId) (token : Token) → HasTags tags host.key key →
      AreCast tags key
      (after_passing code (cast tags key ignored halted host) from
      (message.Sync request frame entry (tagged tags token)))
      (after_passing code host from (message.Sync request frame entry token))
  sync_cast code ignored halted host from request frame entry token made =
      let pushed : Token → HostState = λ one. record (cast tags key ignored halted host) {
        entries = record { token = one; entry = entry; frame = frame; kept = tagged tags token }
            ∷ map (tagged_entry tags) host.entries;
        serials = slice_set host.serials entry.0 (slice_index host.serials entry.0 + 1);
      } in
      let said : Token → Option (HostId × Message) = λ one. Some (from, message.Token request one) in
      let same = token_made ignored halted host entry frame made in
      ((ignored, halted, ap pushed same), ap said same)

  passing_cast : (code : CodeShape) (ignored : ℕ) (halted : Bool) (host : HostState) (from : HostId)
      (letter : Message) → HasTags tags host.key key →
      AreCast tags key (after_passing code (cast tags key ignored halted host) from (tagged_message tags letter))
      (after_passing code host from letter)
  passing_cast code ignored halted host from (message.Get request field index) made = ((ignored, halted, refl), refl)
  passing_cast code ignored halted host from (message.Set request field index value) made =
      ((ignored, halted, refl), refl)
  passing_cast code ignored halted host from (message.Forward request frame variable value) made =
      ((ignored, halted, refl), refl)
  passing_cast code ignored halted host from (message.Sync request frame entry token) made =
      sync_cast code ignored halted host from request frame entry token made
  passing_cast code ignored halted host from (message.Rgoto frame entry token) made =
      (entered ignored halted host (entry_at code entry) frame token, refl)
  passing_cast code ignored halted host from (message.RgotoWith frame entry token riders) made = (
    rw (riders_cast ignored halted host frame riders)
        (entered ignored halted (with_variables_set host frame riders) (entry_at code entry) frame token),
    refl,
  )
  passing_cast code ignored halted host from (message.Lgoto token) made =
      (popped code ignored halted host host.entries, refl)
  passing_cast code ignored halted host from (message.Value request value) made = (
    (
      ignored,
      halted,
      answered_cast ignored halted host value_of_field request from (with_temporary value)
          (with_temporary value) (λ thread. refl),
    ),
    refl,
  )
  passing_cast code ignored halted host from (message.Ack request) made = (
    (
      ignored,
      halted,
      answered_cast ignored halted host acknowledgement request from (λ thread. thread)
          (λ thread. thread) (λ thread. refl),
    ),
    refl,
  )
  passing_cast code ignored halted host from (message.Token request token) made = (
    (
      ignored,
      halted,
      answered_cast ignored halted host token_of_entry request from (with_token (Some token))
          (with_token (Some (tagged tags token))) (λ thread. refl),
    ),
    refl,
  )

  -- ---- steps

  running_cast : (code : CodeShape) (ignored : ℕ) (halted : Bool) (host : HostState) (thread : ThreadShape)
      (found : Option Instr) (passes : Bool) → HasTags tags host.key key →
      AreCast tags key
      (after_running code (cast tags key ignored halted host) (tagged_thread tags thread) found passes)
      (after_running code host thread found passes)
  running_cast code ignored halted host thread None passes made = ((ignored, halted, refl), refl)
  running_cast code ignored halted host thread (Some instruction) passes made =
      runs_cast code ignored halted host thread instruction.op passes made

  turn_cast : (code : CodeShape) (ignored : ℕ) (halted : Bool) (host : HostState) (running : Option ThreadShape)
      (passes : Bool) → HasTags tags host.key key →
      AreCast tags key
      (after_turn code (cast tags key ignored halted host) (option_map (tagged_thread tags) running) passes)
      (after_turn code host running passes)
  turn_cast code ignored halted host None passes made = ((ignored, halted, refl), refl)
  turn_cast code ignored halted host (Some thread) passes made =
      running_cast code ignored halted (with_running host None) thread (instruction_at code host.me thread.at) passes
      made

  taking_cast : (code : CodeShape) (ignored : ℕ) (halted : Bool) (host : HostState) (from : HostId)
      (letter : Message) (passes : Bool) → HasTags tags host.key key →
      AreCast tags key
      (after_taking code (cast tags key ignored halted host) from (tagged_message tags letter) passes)
      (after_taking code host from letter passes)
  taking_cast code ignored halted host from letter true made =
      passing_cast code ignored halted host from letter made
  taking_cast code ignored halted host from letter false made = ((ignored + 1, halted, refl), refl)

  pub step_cast : (code : CodeShape) (ignored : ℕ) (halted : Bool) (host : HostState) (step : Step) (passes : Bool) →
      HasTags tags host.key key →
      AreCast tags key (told_step code (cast tags key ignored halted host) (tagged_step tags step) passes)
      (told_step code host step passes)
  step_cast code ignored halted host turns passes made =
      turn_cast code ignored halted host host.running passes made
  step_cast code ignored halted host (takes from letter) passes made =
      taking_cast code ignored halted host from letter passes made
