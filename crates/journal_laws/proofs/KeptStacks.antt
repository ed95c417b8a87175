-- A step keeps the key of its host. Each token on the stack is one that the host made with it, and the entry that ends
-- the program stands at the bottom alone.
use Rattle.std.proofs.Common.{◌≡◌, ◌≢◌, ℕ, Bool, true, false, refl, ap, sym, subst, List, [], ◌∷◌, arith}
use Rattle.std.specs.Prelude.{◌==◌, Option, Some, None, ⊤, pos, slice_index}
use Rattle.std.specs.Ordering.{int_eq}
use Rattle.std.proofs.lemmas.Bool.Decides.{nat_tests}
use Rattle.js_base.specs.declared.ids.HostId.{HostId}
use Rattle.js_base.specs.declared.ids.FieldId.{FieldId}
use Rattle.js_base.specs.declared.ids.FrameId.{FrameId}
use Rattle.js_base.specs.declared.ids.VarId.{VarId}
use Rattle.js_base.specs.declared.ids.EntryId.{EntryId}
use Rattle.capability.specs.declared.token.Token.{Token}
use Rattle.capability.specs.Tag.{tag_of}
use Rattle.ics_stack.specs.declared.stack.StackEntry.{StackEntry}
use Rattle.host_code.specs.declared.code.Entry.{Entry}
use Rattle.host_code.specs.declared.code_expr.Node.{Node}
use Rattle.host_code.specs.declared.instruction.Instr.{Instr}
use Rattle.host_code.specs.declared.instruction.Op.{Op}
use Rattle.host_code.specs.declared.instruction.Op.TheVariants as op
use Rattle.host_code.specs.declared.message.Message.{Message}
use Rattle.host_code.specs.declared.message.Message.TheVariants as message
use Rattle.host_code.specs.Riders.{Rider}
use Rattle.host_code.specs.Thread.{ThreadShape}
use Rattle.host_code.specs.Thread.Awaited.{value_of_field, acknowledgement, token_of_entry}
use Rattle.host_code.specs.Code.{CodeShape, CodeFieldShape, entry_at, field_at, halt, instruction_at}
use Rattle.host_core.specs.Host.{HostState, after_entering, after_pop, after_push, new_token}
use Rattle.host_core.specs.Host.{with_running}
use Rattle.host_core.specs.Host.{with_variable_set, with_variables_set, value_in_thread}
use Rattle.host_core.specs.Taking.{after_passing, after_answer, place_of_awaiting}
use Rattle.host_core.specs.Turn.{after_operation, after_read, after_put, after_branch, after_own_push, after_ask}
use Rattle.host_core.specs.Turn.{after_go, after_go_with, after_own_call, after_call, after_return, after_back}
use Rattle.journal_laws.specs.Steps.{Step, turns, takes, told_step, after_turn, after_running}
use Rattle.journal_laws.proofs.WithoutHalt.{is_lasting}

-- the host made the token with this key
abbrev pub IsMade : List ℕ → Token → Type 0
IsMade key token = token.tag ≡ tag_of key token.host token.frame token.entry token.serial

abbrev pub AreMade : List ℕ → List StackEntry → Type 0
AreMade key [] = ⊤
AreMade key (top ∷ below) = IsMade key top.token × AreMade key below

-- only the last of the entries may be the one that ends the program
abbrev pub AreLow : List StackEntry → Type 0
AreLow [] = ⊤
AreLow (top ∷ []) = ⊤
AreLow (top ∷ next ∷ below) = (is_lasting top ≡ true) × AreLow (next ∷ below)

pub record HasStack (key : List ℕ) (host : HostState) : Type 0 where
  pub key_is : host.key ≡ key
  pub made : AreMade key host.entries
  pub low : AreLow host.entries

-- the instruction or the message pushes no entry that ends the program
abbrev pub PushesOther : Op → Type 0
PushesOther (op.Push entry) = entry ≢ halt
PushesOther _ = ⊤

abbrev pub SyncsOther : Message → Type 0
SyncsOther (message.Sync request frame entry token) = entry ≢ halt
SyncsOther _ = ⊤

-- ---- pushes and entries

pub lasts : (entry : EntryId) → entry ≢ halt → (entry.0 == halt.0) ≡ false
lasts entry other = by (entry.0 == halt.0) refl
  where
    same : entry.0 ≡ 0 → entry ≡ halt
    same is = ap (λ (n : ℕ). let made : EntryId = record { 0 = n } in made) is

    by : (ends : Bool) → (entry.0 == halt.0) ≡ ends → ends ≡ false
    by false is = refl
    by true is = absurd (other (same (grind (arith, nat_tests))))

low_more : (top : StackEntry) (entries : List StackEntry) → is_lasting top ≡ true → AreLow entries →
    AreLow (top ∷ entries)
low_more top [] lasting low = tt
low_more top (next ∷ below) lasting low = (lasting, low)

low_less : (top : StackEntry) (entries : List StackEntry) → AreLow (top ∷ entries) → AreLow entries
low_less top [] low = tt
low_less top (next ∷ below) low = low.1

kept : (key : List ℕ) (host after : HostState) → after.key ≡ host.key → after.entries ≡ host.entries →
    HasStack key host → HasStack key after
kept key host after same stack has = record {
  key_is = subst (λ k. k ≡ key) (sym same) has.key_is;
  made = subst (AreMade key) (sym stack) has.made;
  low = subst AreLow (sym stack) has.low;
}

pushed : (key : List ℕ) (host : HostState) (entry : EntryId) (frame : FrameId) (token : Token) → entry ≢ halt →
    HasStack key host → HasStack key (after_push host entry frame token)
pushed key host entry frame token other has = record {
  key_is = has.key_is;
  made = (ap (λ k. tag_of k host.me frame entry (slice_index host.serials entry.0)) has.key_is, has.made);
  low = low_more
      (record { token = new_token host entry frame; entry = entry; frame = frame; kept = token }) host.entries
      (rw (lasts entry other) refl) has.low;
}

entered : (key : List ℕ) (host : HostState) (found : Option Entry) (frame : FrameId) (token : Token) →
    HasStack key host → HasStack key (after_entering host found frame token)
entered key host None frame token has = kept key host _ refl refl has
entered key host (Some entry) frame token has = kept key host _ refl refl has

popped : (code : CodeShape) (key : List ℕ) (host : HostState) (entries : List StackEntry) → AreMade key entries →
    AreLow entries → HasStack key host → HasStack key (after_pop code host entries)
popped code key host [] made low has = has
popped code key host (top ∷ below) made low has = by (top.entry.0 == halt.0) refl
  where
    left : HostState
    left = record host { entries = below }

    keeps : HasStack key left
    keeps = record { key_is = has.key_is; made = made.1; low = low_less top below low }

    by : (ends : Bool) → (top.entry.0 == halt.0) ≡ ends → HasStack key (after_pop code host (top ∷ below))
    by true is = rw is (kept key left _ refl refl keeps)
    by false is = rw is (entered key left (entry_at code top.entry) top.frame top.kept keeps)

-- ---- instructions

read_kept : (key : List ℕ) (host : HostState) (thread : ThreadShape) (field : FieldId) (index : List Node)
    (there : Option CodeFieldShape) → HasStack key host → HasStack key (after_read host thread field index there).state
read_kept key host thread field index None has = kept key host _ refl refl has
read_kept key host thread field index (Some there) has = by (there.host.0 == host.me.0) refl
  where
    by : (own : Bool) → (there.host.0 == host.me.0) ≡ own →
        HasStack key (after_read host thread field index (Some there)).state
    by true is = rw is (kept key host _ refl refl has)
    by false is = rw is (kept key host _ refl refl has)

put_kept : (key : List ℕ) (host : HostState) (thread : ThreadShape) (field : FieldId) (index value : List Node)
    (there : Option CodeFieldShape) → HasStack key host →
    HasStack key (after_put host thread field index value there).state
put_kept key host thread field index value None has = kept key host _ refl refl has
put_kept key host thread field index value (Some there) has = by (there.host.0 == host.me.0) refl
  where
    by : (own : Bool) → (there.host.0 == host.me.0) ≡ own →
        HasStack key (after_put host thread field index value (Some there)).state
    by true is = rw is (kept key host _ refl refl has)
    by false is = rw is (kept key host _ refl refl has)

branch_kept : (key : List ℕ) (host : HostState) (thread : ThreadShape) (guard : List Node) (target : ℕ) →
    HasStack key host → HasStack key (after_branch host thread guard target).state
branch_kept key host thread guard target has = by (int_eq (value_in_thread host thread guard) (pos 0)) refl
  where
    by : (none : Bool) → int_eq (value_in_thread host thread guard) (pos 0) ≡ none →
        HasStack key (after_branch host thread guard target).state
    by true is = rw is (kept key host _ refl refl has)
    by false is = rw is (kept key host _ refl refl has)

push_kept : (key : List ℕ) (host : HostState) (thread : ThreadShape) (entry : EntryId) (held : Option Token) →
    entry ≢ halt → HasStack key host → HasStack key (after_own_push host thread entry held).state
push_kept key host thread entry None other has = kept key host _ refl refl has
push_kept key host thread entry (Some held) other has =
    kept key (after_push host entry thread.frame held) _ refl refl (pushed key host entry thread.frame held other has)

ask_kept : (key : List ℕ) (host : HostState) (thread : ThreadShape) (entry : EntryId) (on : HostId)
    (held : Option Token) → HasStack key host → HasStack key (after_ask host thread entry on held).state
ask_kept key host thread entry on None has = kept key host _ refl refl has
ask_kept key host thread entry on (Some held) has = kept key host _ refl refl has

go_kept : (key : List ℕ) (host : HostState) (thread : ThreadShape) (frame : FrameId) (entry : EntryId) (on : HostId)
    (held : Option Token) → HasStack key host → HasStack key (after_go host thread frame entry on held).state
go_kept key host thread frame entry on None has = kept key host _ refl refl has
go_kept key host thread frame entry on (Some held) has = kept key host _ refl refl has

go_with_kept : (key : List ℕ) (host : HostState) (thread : ThreadShape) (frame : FrameId) (entry : EntryId)
    (on : HostId) (variables : List VarId) (held : Option Token) → HasStack key host →
    HasStack key (after_go_with host thread frame entry on variables held).state
go_with_kept key host thread frame entry on variables None has = kept key host _ refl refl has
go_with_kept key host thread frame entry on variables (Some held) has = kept key host _ refl refl has

own_call_kept : (key : List ℕ) (host : HostState) (thread : ThreadShape) (there : Option Entry) →
    HasStack key host → HasStack key (after_own_call host thread there).state
own_call_kept key host thread None has = kept key host _ refl refl has
own_call_kept key host thread (Some there) has = kept key host _ refl refl has

call_kept : (code : CodeShape) (key : List ℕ) (host : HostState) (thread : ThreadShape) (entry : EntryId)
    (on : HostId) → HasStack key host → HasStack key (after_call code host thread entry on).state
call_kept code key host thread entry on has = by (on.0 == host.me.0) refl
  where
    by : (own : Bool) → (on.0 == host.me.0) ≡ own → HasStack key (after_call code host thread entry on).state
    by true is = rw is (own_call_kept key host thread (entry_at code entry) has)
    by false is = rw is (go_kept key host thread thread.new_frame entry on thread.held has)

return_kept : (key : List ℕ) (host : HostState) (thread : ThreadShape) (variable : VarId) (value : List Node)
    (held : Option Token) (passes : Bool) → HasStack key host →
    HasStack key (after_return host thread variable value held passes).state
return_kept key host thread variable value None passes has = kept key host _ refl refl has
return_kept key host thread variable value (Some held) passes has = by (held.host.0 == host.me.0) refl passes
  where
    by : (own : Bool) → (held.host.0 == host.me.0) ≡ own → (may : Bool) →
        HasStack key (after_return host thread variable value (Some held) may).state
    by true is may = rw is (kept key host _ refl refl has)
    by false is true = rw is (kept key host _ refl refl has)
    by false is false = rw is (kept key host _ refl refl has)

back_kept : (code : CodeShape) (key : List ℕ) (host : HostState) (thread : ThreadShape) (held : Option Token)
    (passes : Bool) → HasStack key host → HasStack key (after_back code host thread held passes).state
back_kept code key host thread None passes has = kept key host _ refl refl has
back_kept code key host thread (Some held) passes has = by (held.host.0 == host.me.0) refl passes
  where
    rests : HasStack key (with_running host None)
    rests = kept key host _ refl refl has

    by : (own : Bool) → (held.host.0 == host.me.0) ≡ own → (may : Bool) →
        HasStack key (after_back code host thread (Some held) may).state
    by true is true = rw is (popped code key (with_running host None) host.entries has.made has.low rests)
    by true is false = rw is (kept key host _ refl refl has)
    by false is may = rw is (kept key host _ refl refl has)

runs_kept : (code : CodeShape) (key : List ℕ) (host : HostState) (thread : ThreadShape) (operation : Op)
    (passes : Bool) → PushesOther operation → HasStack key host →
    HasStack key (after_operation code host thread operation passes).state
runs_kept code key host thread (op.Read field index) passes other has =
    read_kept key host thread field index (field_at code field) has
runs_kept code key host thread (op.Let variable value) passes other has = kept key host _ refl refl has
runs_kept code key host thread (op.Put field index value) passes other has =
    put_kept key host thread field index value (field_at code field) has
runs_kept code key host thread (op.Send variable to) passes other has = kept key host _ refl refl has
runs_kept code key host thread (op.Frame site) passes other has = kept key host _ refl refl has
runs_kept code key host thread (op.Arg variable value) passes other has = kept key host _ refl refl has
runs_kept code key host thread (op.Pass variable to) passes other has = kept key host _ refl refl has
runs_kept code key host thread (op.Push entry) passes other has = push_kept key host thread entry thread.held other has
runs_kept code key host thread (op.Ask entry on) passes other has = ask_kept key host thread entry on thread.held has
runs_kept code key host thread (op.Go entry on) passes other has =
    go_kept key host thread thread.frame entry on thread.held has
runs_kept code key host thread (op.GoWith entry on riders) passes other has =
    go_with_kept key host thread thread.frame entry on riders thread.held has
runs_kept code key host thread (op.Call entry on) passes other has = call_kept code key host thread entry on has
runs_kept code key host thread (op.CallWith entry on riders) passes other has =
    go_with_kept key host thread thread.new_frame entry on riders thread.held has
runs_kept code key host thread (op.Ret variable value) passes other has =
    return_kept key host thread variable value thread.held passes has
runs_kept code key host thread op.Back passes other has = back_kept code key host thread thread.held passes has
runs_kept code key host thread (op.Branch guard target) passes other has =
    branch_kept key host thread guard target has

-- ---- messages

riders_kept : (key : List ℕ) (host : HostState) (frame : FrameId) (riders : List Rider) → HasStack key host →
    HasStack key (with_variables_set host frame riders)
riders_kept key host frame [] has = has
riders_kept key host frame (rider ∷ riders) has =
    riders_kept key (with_variable_set host frame rider.0 rider.1) frame riders (kept key host _ refl refl has)

answered_kept : (key : List ℕ) (host : HostState) (place : Option ℕ) (answered : ThreadShape → ThreadShape) →
    HasStack key host → HasStack key (after_answer host place answered)
answered_kept key host None answered has = has
answered_kept key host (Some place) answered has = kept key host _ refl refl has

passing_kept : (code : CodeShape) (key : List ℕ) (host : HostState) (from : HostId) (letter : Message) →
    SyncsOther letter → HasStack key host → HasStack key (after_passing code host from letter).state
passing_kept code key host from (message.Get request field index) other has = has
passing_kept code key host from (message.Set request field index value) other has = kept key host _ refl refl has
passing_kept code key host from (message.Forward request frame variable value) other has =
    kept key host _ refl refl has
passing_kept code key host from (message.Sync request frame entry token) other has =
    pushed key host entry frame token other has
passing_kept code key host from (message.Rgoto frame entry token) other has =
    entered key host (entry_at code entry) frame token has
passing_kept code key host from (message.RgotoWith frame entry token riders) other has =
    entered key (with_variables_set host frame riders) (entry_at code entry) frame token
    (riders_kept key host frame riders has)
passing_kept code key host from (message.Lgoto token) other has =
    popped code key host host.entries has.made has.low has
passing_kept code key host from (message.Value request value) other has =
    answered_kept key host (place_of_awaiting host value_of_field request from) _ has
passing_kept code key host from (message.Ack request) other has =
    answered_kept key host (place_of_awaiting host acknowledgement request from) _ has
passing_kept code key host from (message.Token request token) other has =
    answered_kept key host (place_of_awaiting host token_of_entry request from) _ has

-- ---- steps

abbrev pub FoundPushes : Option Instr → Type 0
FoundPushes None = ⊤
FoundPushes (Some instruction) = PushesOther instruction.op

abbrev pub ThreadPushes : CodeShape → HostId → Option ThreadShape → Type 0
ThreadPushes code me None = ⊤
ThreadPushes code me (Some thread) = FoundPushes (instruction_at code me thread.at)

-- the step pushes no entry that ends the program
abbrev pub StepPushes : CodeShape → HostState → Step → Bool → Type 0
StepPushes code host turns passes = ThreadPushes code host.me host.running
StepPushes code host (takes from letter) passes = passes ≡ true → SyncsOther letter

running_kept : (code : CodeShape) (key : List ℕ) (host : HostState) (thread : ThreadShape) (found : Option Instr)
    (passes : Bool) → FoundPushes found → HasStack key host →
    HasStack key (after_running code host thread found passes).state
running_kept code key host thread None passes other has = kept key host _ refl refl has
running_kept code key host thread (Some instruction) passes other has =
    runs_kept code key host thread instruction.op passes other has

turn_kept : (code : CodeShape) (key : List ℕ) (host : HostState) (running : Option ThreadShape) (passes : Bool) →
    ThreadPushes code host.me running → HasStack key host → HasStack key (after_turn code host running passes).state
turn_kept code key host None passes other has = has
turn_kept code key host (Some thread) passes other has =
    running_kept code key (with_running host None) thread (instruction_at code host.me thread.at) passes other
    (kept key host _ refl refl has)

pub stack_kept : (code : CodeShape) (key : List ℕ) (host : HostState) (step : Step) (passes : Bool) →
    StepPushes code host step passes → HasStack key host → HasStack key (told_step code host step passes).state
stack_kept code key host turns passes other has = turn_kept code key host host.running passes other has
stack_kept code key host (takes from letter) true other has = passing_kept code key host from letter (other refl) has
stack_kept code key host (takes from letter) false other has = kept key host _ refl refl has
