-- Tokens that a host took have names. A step moves them and copies none: so a name stands on the host no more often
-- than before, but for that of the token that the step takes.
use Rattle.std.proofs.Common.{◌≡◌, ◌≢◌, ◌+◌, ◌≤◌, ℕ, zero, suc, Bool, true, false, refl, ap, sym, subst, List, []}
use Rattle.std.proofs.Common.{◌∷◌, ◌++◌, arith}
use Rattle.std.specs.Prelude.{◌==◌, Option, Some, None, if◌then◌else◌, pos, slice_index, slice_get, remove}
use Rattle.std.specs.Option.{option_map}
use Rattle.std.specs.Ordering.{int_eq}
use Rattle.std.specs.Str.{bytes_eq}
use Rattle.std.proofs.lemmas.Slice.Eq.{bytes_eq-Decides}
use Rattle.js_base.specs.declared.ids.HostId.{HostId}
use Rattle.js_base.specs.declared.ids.FieldId.{FieldId}
use Rattle.js_base.specs.declared.ids.FrameId.{FrameId}
use Rattle.js_base.specs.declared.ids.VarId.{VarId}
use Rattle.js_base.specs.declared.ids.EntryId.{EntryId}
use Rattle.capability.specs.declared.token.Token.{Token}
use Rattle.ics_stack.specs.declared.stack.StackEntry.{StackEntry}
use Rattle.host_code.specs.declared.code.Entry.{Entry}
use Rattle.host_code.specs.declared.code_expr.Node.{Node}
use Rattle.host_code.specs.declared.instruction.Instr.{Instr}
use Rattle.host_code.specs.declared.instruction.Op.{Op}
use Rattle.host_code.specs.declared.instruction.Op.TheVariants as op
use Rattle.host_code.specs.declared.message.Message.{Message}
use Rattle.host_code.specs.declared.message.Message.TheVariants as message
use Rattle.host_code.specs.Riders.{Rider}
use Rattle.host_code.specs.Thread.{ThreadShape, WaitingShape}
use Rattle.host_code.specs.Thread.Awaited.{value_of_field, acknowledgement, token_of_entry}
use Rattle.host_code.specs.Code.{CodeShape, CodeFieldShape, entry_at, field_at, halt, instruction_at}
use Rattle.host_core.specs.Host.{HostState, Outcome, after_entering, after_pop, new_token, with_running}
use Rattle.host_core.specs.Host.{with_temporary, with_token, with_variable_set, with_variables_set, value_in_thread}
use Rattle.host_core.specs.Taking.{after_passing, after_answer, place_of_awaiting}
use Rattle.host_core.specs.Told.{settled, told_key}
use Rattle.host_core.specs.Turn.{after_operation, after_read, after_put, after_branch, after_own_push, after_ask}
use Rattle.host_core.specs.Turn.{after_go, after_go_with, after_own_call, after_call, after_return, after_back}
use Rattle.journal_laws.specs.Steps.{Step, turns, takes, told_step, after_turn, after_running}
use Rattle.journal_laws.proofs.KeptStacks.{FoundPushes, PushesOther, StepPushes, SyncsOther, ThreadPushes, lasts}
use Rattle.journal_laws.proofs.OwnTags.{right_tag}
use Rattle.journal_laws.proofs.WithoutHalt.{is_lasting}

-- ---- names

-- the host made the token with the key of played hosts
abbrev pub is_right : Token → Bool
is_right token = bytes_eq token.tag (right_tag told_key token)

pub right_is : (token : Token) → token.tag ≡ right_tag told_key token → is_right token ≡ true
right_is token same = (bytes_eq-Decides token.tag (right_tag told_key token)).1 same

pub is_right_tag : (token : Token) → is_right token ≡ true → token.tag ≡ right_tag told_key token
is_right_tag token is = (bytes_eq-Decides token.tag (right_tag told_key token)).0 is

-- the name of any other token, which is its second byte
abbrev pub name_of : Token → ℕ
name_of token = slice_index token.tag 1

-- whether the token has the name, as a number
abbrev pub hits : ℕ → Token → ℕ
hits name token = if is_right token then 0 else (if name_of token == name then 1 else 0)

abbrev pub held_hits : ℕ → Option Token → ℕ
held_hits name None = 0
held_hits name (Some token) = hits name token

abbrev pub running_hits : ℕ → Option ThreadShape → ℕ
running_hits name None = 0
running_hits name (Some thread) = held_hits name thread.held

abbrev pub waiting_hits : ℕ → List WaitingShape → ℕ
waiting_hits name [] = 0
waiting_hits name (first ∷ waiting) = held_hits name first.thread.held + waiting_hits name waiting

-- The token that is kept with the entry that ends the program may have the name 0.
abbrev pub entry_hits : ℕ → StackEntry → ℕ
entry_hits name entry =
    if is_lasting entry then hits name entry.kept else (if name == 0 then 0 else hits name entry.kept)

abbrev pub entries_hits : ℕ → List StackEntry → ℕ
entries_hits name [] = 0
entries_hits name (top ∷ below) = entry_hits name top + entries_hits name below

-- how many tokens on the host have the name
abbrev pub count : ℕ → HostState → ℕ
count name host = running_hits name host.running + (waiting_hits name host.waiting + entries_hits name host.entries)

-- those that wait or are kept
abbrev pub lying : ℕ → HostState → ℕ
lying name host = waiting_hits name host.waiting + entries_hits name host.entries

-- no thread runs where a message is taken
abbrev pub Rests : HostState → Step → Type 0
Rests host turns = host.me ≡ host.me
Rests host (takes from letter) = host.running ≡ None

-- ---- changes

same_count : (one other : ℕ) → one ≡ other → one ≤ other
same_count one other same = omega (arith, same)

no_more : (one : ℕ) → one ≤ one
no_more one = omega arith

module _ (name : ℕ) where
  entered : (host : HostState) (found : Option Entry) (frame : FrameId) (token : Token) →
      count name (after_entering host found frame token) ≤ hits name token + lying name host
  entered host None frame token = omega arith
  entered host (Some entry) frame token = no_more (hits name token + lying name host)

  kept_hits : (top : StackEntry) → (top.entry.0 == halt.0) ≡ false → entry_hits name top ≡ hits name top.kept
  kept_hits top lasting = rw lasting refl

  popped : (code : CodeShape) (host : HostState) (entries : List StackEntry) → host.running ≡ None →
      host.entries ≡ entries →
      count name (after_pop code host entries) ≤ waiting_hits name host.waiting + entries_hits name entries
  popped code host [] rest stack =
      let none : running_hits name host.running ≡ 0 = ap (running_hits name) rest in
      let empty : entries_hits name host.entries ≡ 0 = ap (entries_hits name) stack in
      omega (arith, none, empty)
  popped code host (top ∷ below) rest stack = by (top.entry.0 == halt.0) refl
    where
      left : HostState
      left = record host { entries = below }

      by : (ends : Bool) → (top.entry.0 == halt.0) ≡ ends →
          count name (after_pop code host (top ∷ below))
          ≤ waiting_hits name host.waiting + entries_hits name (top ∷ below)
      by true is =
          subst (λ after. count name after
          ≤ waiting_hits name host.waiting + (entry_hits name top + entries_hits name below)) (sym (stops is))
          (omega arith)
        where
          stops : (top.entry.0 == halt.0) ≡ true →
              after_pop code host (top ∷ below) ≡ record left { running = None; halted = true }
          stops is = rw is refl
      by false is =
          let some = entered left (entry_at code top.entry) top.frame top.kept in
          let here = kept_hits top is in
          let both : count name (after_entering left (entry_at code top.entry) top.frame top.kept)
          ≤ waiting_hits name host.waiting + (entry_hits name top + entries_hits name below) =
          omega (arith, some, here) in
          subst (λ after. count name after
          ≤ waiting_hits name host.waiting + (entry_hits name top + entries_hits name below))
          (sym (pops is)) both
        where
          pops : (top.entry.0 == halt.0) ≡ false →
              after_pop code host (top ∷ below)
              ≡ after_entering left (entry_at code top.entry) top.frame top.kept
          pops is = rw is refl

  appended : (waiting : List WaitingShape) (one : WaitingShape) →
      waiting_hits name (waiting ++ one ∷ []) ≡ waiting_hits name waiting + held_hits name one.thread.held
  appended [] one = omega arith
  appended (first ∷ waiting) one = let rest = appended waiting one in omega (arith, rest)

  -- a thread more that waits
  asked : (waiting : List WaitingShape) (one : WaitingShape) (entries : List StackEntry) (held : ℕ) →
      held_hits name one.thread.held ≤ held →
      0 + (waiting_hits name (waiting ++ one ∷ []) + entries_hits name entries)
      ≤ held + (waiting_hits name waiting + entries_hits name entries)
  asked waiting one entries held few = let all = appended waiting one in omega (arith, few, all)

  abbrev Within : ThreadShape → HostState → Outcome → Type 0
  Within thread host after = count name after.state ≤ held_hits name thread.held + lying name host

  -- the thread goes on, or ends
  stays : (thread : ThreadShape) (host : HostState) → held_hits name thread.held + lying name host
      ≤ held_hits name thread.held + lying name host
  stays thread host = no_more (held_hits name thread.held + lying name host)

  ends : (thread : ThreadShape) (host : HostState) →
      0 + lying name host ≤ held_hits name thread.held + lying name host
  ends thread host = omega arith

  -- ---- instructions

  read_counts : (host : HostState) (thread : ThreadShape) (field : FieldId) (index : List Node)
      (there : Option CodeFieldShape) → Within thread host (after_read host thread field index there)
  read_counts host thread field index None = stays thread host
  read_counts host thread field index (Some there) = by (there.host.0 == host.me.0) refl
    where
      by : (own : Bool) → (there.host.0 == host.me.0) ≡ own →
          Within thread host (after_read host thread field index (Some there))
      by true is = rw is (stays thread host)
      by false is = rw is (asked host.waiting _ host.entries (held_hits name thread.held)
          (no_more (held_hits name thread.held)))

  put_counts : (host : HostState) (thread : ThreadShape) (field : FieldId) (index value : List Node)
      (there : Option CodeFieldShape) → Within thread host (after_put host thread field index value there)
  put_counts host thread field index value None = stays thread host
  put_counts host thread field index value (Some there) = by (there.host.0 == host.me.0) refl
    where
      by : (own : Bool) → (there.host.0 == host.me.0) ≡ own →
          Within thread host (after_put host thread field index value (Some there))
      by true is = rw is (stays thread host)
      by false is = rw is (asked host.waiting _ host.entries (held_hits name thread.held)
          (no_more (held_hits name thread.held)))

  branch_counts : (host : HostState) (thread : ThreadShape) (guard : List Node) (target : ℕ) →
      Within thread host (after_branch host thread guard target)
  branch_counts host thread guard target = by (int_eq (value_in_thread host thread guard) (pos 0)) refl
    where
      by : (none : Bool) → int_eq (value_in_thread host thread guard) (pos 0) ≡ none →
          Within thread host (after_branch host thread guard target)
      by true is = rw is (stays thread host)
      by false is = rw is (stays thread host)

  -- a token that the host makes has no name
  made_counts : (host : HostState) (entry : EntryId) (frame : FrameId) → host.key ≡ told_key →
      hits name (new_token host entry frame) ≡ 0
  made_counts host entry frame key =
      let right : is_right (new_token host entry frame) ≡ true =
      right_is (new_token host entry frame)
      (ap (λ k. right_tag k (new_token host entry frame)) key) in
      rw right refl

  pushed_entry : (host : HostState) (entry : EntryId) (frame : FrameId) (kept : Token) → entry ≢ halt →
      entry_hits name (record {
        token = new_token host entry frame;
        entry = entry;
        frame = frame;
        kept = kept;
      }) ≡ hits name kept
  pushed_entry host entry frame kept other = rw (lasts entry other) refl

  push_counts : (host : HostState) (thread : ThreadShape) (entry : EntryId) (held : Option Token) →
      host.key ≡ told_key → entry ≢ halt → thread.held ≡ held →
      Within thread host (after_own_push host thread entry held)
  push_counts host thread entry None key other at = stays thread host
  push_counts host thread entry (Some held) key other at =
      let none = made_counts host entry thread.frame key in
      let kept = pushed_entry host entry thread.frame held other in
      let here : held_hits name thread.held ≡ hits name held = ap (held_hits name) at in
      omega (arith, none, kept, here)

  ask_counts : (host : HostState) (thread : ThreadShape) (entry : EntryId) (on : HostId) (held : Option Token) →
      Within thread host (after_ask host thread entry on held)
  ask_counts host thread entry on None = stays thread host
  ask_counts host thread entry on (Some held) =
      asked host.waiting _ host.entries (held_hits name thread.held) (omega arith)

  go_counts : (host : HostState) (thread : ThreadShape) (frame : FrameId) (entry : EntryId) (on : HostId)
      (held : Option Token) → Within thread host (after_go host thread frame entry on held)
  go_counts host thread frame entry on None = stays thread host
  go_counts host thread frame entry on (Some held) = ends thread host

  go_with_counts : (host : HostState) (thread : ThreadShape) (frame : FrameId) (entry : EntryId) (on : HostId)
      (variables : List VarId) (held : Option Token) →
      Within thread host (after_go_with host thread frame entry on variables held)
  go_with_counts host thread frame entry on variables None = stays thread host
  go_with_counts host thread frame entry on variables (Some held) = ends thread host

  own_call_counts : (host : HostState) (thread : ThreadShape) (there : Option Entry) →
      Within thread host (after_own_call host thread there)
  own_call_counts host thread None = stays thread host
  own_call_counts host thread (Some there) = stays thread host

  call_counts : (code : CodeShape) (host : HostState) (thread : ThreadShape) (entry : EntryId) (on : HostId) →
      Within thread host (after_call code host thread entry on)
  call_counts code host thread entry on = by (on.0 == host.me.0) refl
    where
      by : (own : Bool) → (on.0 == host.me.0) ≡ own → Within thread host (after_call code host thread entry on)
      by true is = rw is (own_call_counts host thread (entry_at code entry))
      by false is = rw is (go_counts host thread thread.new_frame entry on thread.held)

  return_counts : (host : HostState) (thread : ThreadShape) (variable : VarId) (value : List Node)
      (held : Option Token) (passes : Bool) → Within thread host (after_return host thread variable value held passes)
  return_counts host thread variable value None passes = stays thread host
  return_counts host thread variable value (Some held) passes = by (held.host.0 == host.me.0) refl passes
    where
      by : (own : Bool) → (held.host.0 == host.me.0) ≡ own → (may : Bool) →
          Within thread host (after_return host thread variable value (Some held) may)
      by true is may = rw is (stays thread host)
      by false is true = rw is (asked host.waiting _ host.entries (held_hits name thread.held)
          (no_more (held_hits name thread.held)))
      by false is false = rw is (stays thread host)

  back_counts : (code : CodeShape) (host : HostState) (thread : ThreadShape) (held : Option Token) (passes : Bool) →
      Within thread host (after_back code host thread held passes)
  back_counts code host thread None passes = stays thread host
  back_counts code host thread (Some held) passes = by (held.host.0 == host.me.0) refl passes
    where
      taken : count name (after_pop code (with_running host None) host.entries)
          ≤ held_hits name thread.held + lying name host
      taken = let less = popped code (with_running host None) host.entries refl refl in omega (arith, less)

      by : (own : Bool) → (held.host.0 == host.me.0) ≡ own → (may : Bool) →
          Within thread host (after_back code host thread (Some held) may)
      by true is true = rw is taken
      by true is false = rw is (ends thread host)
      by false is may = rw is (ends thread host)

  runs_counts : (code : CodeShape) (host : HostState) (thread : ThreadShape) (operation : Op) (passes : Bool) →
      host.key ≡ told_key → PushesOther operation →
      Within thread host (after_operation code host thread operation passes)
  runs_counts code host thread (op.Read field index) passes key other =
      read_counts host thread field index (field_at code field)
  runs_counts code host thread (op.Let variable value) passes key other = stays thread host
  runs_counts code host thread (op.Put field index value) passes key other =
      put_counts host thread field index value (field_at code field)
  runs_counts code host thread (op.Send variable to) passes key other =
      asked host.waiting _ host.entries (held_hits name thread.held) (no_more (held_hits name thread.held))
  runs_counts code host thread (op.Frame site) passes key other = stays thread host
  runs_counts code host thread (op.Arg variable value) passes key other = stays thread host
  runs_counts code host thread (op.Pass variable to) passes key other =
      asked host.waiting _ host.entries (held_hits name thread.held) (no_more (held_hits name thread.held))
  runs_counts code host thread (op.Push entry) passes key other =
      push_counts host thread entry thread.held key other refl
  runs_counts code host thread (op.Ask entry on) passes key other = ask_counts host thread entry on thread.held
  runs_counts code host thread (op.Go entry on) passes key other =
      go_counts host thread thread.frame entry on thread.held
  runs_counts code host thread (op.GoWith entry on riders) passes key other =
      go_with_counts host thread thread.frame entry on riders thread.held
  runs_counts code host thread (op.Call entry on) passes key other = call_counts code host thread entry on
  runs_counts code host thread (op.CallWith entry on riders) passes key other =
      go_with_counts host thread thread.new_frame entry on riders thread.held
  runs_counts code host thread (op.Ret variable value) passes key other =
      return_counts host thread variable value thread.held passes
  runs_counts code host thread op.Back passes key other = back_counts code host thread thread.held passes
  runs_counts code host thread (op.Branch guard target) passes key other = branch_counts host thread guard target

  -- a step that takes off leaves what waits and is kept
  pub settled_counts : (code : CodeShape) (host : HostState) (passes : Bool) →
      count name (settled code host passes) ≤ lying name host
  settled_counts code host true = popped code (with_running host None) host.entries refl refl
  settled_counts code host false = omega arith

  -- ---- messages

  -- the name of the token of a message
  abbrev pub letter_hits : Message → ℕ
  letter_hits (message.Sync request frame entry token) = hits name token
  letter_hits (message.Rgoto frame entry token) = hits name token
  letter_hits (message.RgotoWith frame entry token riders) = hits name token
  letter_hits (message.Token request token) = hits name token
  letter_hits _ = 0

  riders_lying : (host : HostState) (frame : FrameId) (riders : List Rider) →
      lying name (with_variables_set host frame riders) ≡ lying name host
  riders_lying host frame [] = refl
  riders_lying host frame (rider ∷ riders) = riders_lying (with_variable_set host frame rider.0 rider.1) frame riders

  -- a thread that is taken out of those that wait
  woken : (waiting : List WaitingShape) (place : ℕ) (answered : ThreadShape → ThreadShape) (more : ℕ) →
      ((thread : ThreadShape) → held_hits name (answered thread).held ≤ held_hits name thread.held + more) →
      running_hits name (option_map (λ one. answered one.thread) (slice_get waiting place))
      + waiting_hits name (remove waiting place) ≤ waiting_hits name waiting + more
  woken [] zero answered more few = omega arith
  woken [] (suc place) answered more few = omega arith
  woken (first ∷ waiting) zero answered more few = let some = few first.thread in omega (arith, some)
  woken (first ∷ waiting) (suc place) answered more few =
      let rest = woken waiting place answered more few in omega (arith, rest)

  answered_counts : (host : HostState) (place : Option ℕ) (answered : ThreadShape → ThreadShape) (more : ℕ) →
      ((thread : ThreadShape) → held_hits name (answered thread).held ≤ held_hits name thread.held + more) →
      count name (after_answer host place answered) ≤ count name host + more
  answered_counts host None answered more few = omega arith
  answered_counts host (Some place) answered more few =
      let all = woken host.waiting place answered more few in omega (arith, all)

  passing_counts : (code : CodeShape) (host : HostState) (from : HostId) (letter : Message) →
      host.running ≡ None → host.key ≡ told_key → SyncsOther letter →
      count name (after_passing code host from letter).state ≤ count name host + letter_hits letter
  passing_counts code host from (message.Get request field index) rest key other = omega arith
  passing_counts code host from (message.Set request field index value) rest key other =
      let same = no_more (count name host) in omega (arith, same)
  passing_counts code host from (message.Forward request frame variable value) rest key other =
      let same = no_more (count name host) in omega (arith, same)
  passing_counts code host from (message.Sync request frame entry token) rest key other =
      let kept = pushed_entry host entry frame token other in omega (arith, kept)
  passing_counts code host from (message.Rgoto frame entry token) rest key other =
      let some = entered host (entry_at code entry) frame token in omega (arith, some)
  passing_counts code host from (message.RgotoWith frame entry token riders) rest key other =
      let some = entered (with_variables_set host frame riders) (entry_at code entry) frame token in
      let same = riders_lying host frame riders in
      omega (arith, some, same)
  passing_counts code host from (message.Lgoto token) rest key other =
      let less = popped code host host.entries rest refl in omega (arith, less)
  passing_counts code host from (message.Value request value) rest key other =
      answered_counts host (place_of_awaiting host value_of_field request from) (with_temporary value) 0
      (λ thread. omega arith)
  passing_counts code host from (message.Ack request) rest key other =
      answered_counts host (place_of_awaiting host acknowledgement request from) (λ thread. thread) 0
      (λ thread. omega arith)
  passing_counts code host from (message.Token request token) rest key other =
      answered_counts host (place_of_awaiting host token_of_entry request from) (with_token (Some token))
      (hits name token) (λ thread. omega arith)

  -- ---- steps

  turn_counts : (code : CodeShape) (host : HostState) (running : Option ThreadShape) (passes : Bool) →
      host.running ≡ running → host.key ≡ told_key → ThreadPushes code host.me running →
      count name (after_turn code host running passes).state ≤ count name host
  turn_counts code host None passes runs key other = no_more (count name host)
  turn_counts code host (Some thread) passes runs key other = by (instruction_at code host.me thread.at) other
    where
      here : running_hits name host.running ≡ held_hits name thread.held
      here = ap (running_hits name) runs

      by : (found : Option Instr) → FoundPushes found →
          count name (after_running code (with_running host None) thread found passes).state ≤ count name host
      by None other = same_count _ _ (ap (λ hit. hit + lying name host) (sym here))
      by (Some instruction) other =
          let some = runs_counts code (with_running host None) thread instruction.op passes key other in
          omega (arith, some, here)

  abbrev pub step_hits : Step → ℕ
  step_hits turns = 0
  step_hits (takes from letter) = letter_hits letter

  pub step_counts : (code : CodeShape) (host : HostState) (step : Step) (passes : Bool) → Rests host step →
      host.key ≡ told_key → StepPushes code host step passes →
      count name (told_step code host step passes).state ≤ count name host + step_hits step
  step_counts code host turns passes rest key other =
      let less = turn_counts code host host.running passes refl key other in omega (arith, less)
  step_counts code host (takes from letter) true rest key other =
      passing_counts code host from letter rest key (other refl)
  step_counts code host (takes from letter) false rest key other =
      let same = no_more (count name host) in omega (arith, same)
