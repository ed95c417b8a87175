-- A turn keeps what holds of a host of the code, and what it sends fits.
use Rattle.std.proofs.Common.{◌≡◌, ◌≢◌, ℕ, ◌+◌, ◌-◌, ◌<◌, ◌≤◌, ◌⊎◌, ℤ, pos, Bool, true, false, List, [], ◌∷◌, length}
use Rattle.std.proofs.Common.{get_or}
use Rattle.std.proofs.Common.{ap, subst, refl, arith, inl, inr}
use Rattle.std.specs.Prelude.{Option, Some, None, IfSome, IsSomeAnd, slice_get, slice_index, ◌==◌, if◌then◌else◌}
use Rattle.std.specs.List.{AllByRecursion}
use Rattle.std.specs.Ordering.{int_eq}
use Rattle.std.proofs.lemmas.Bool.{eqb-false, cases_lt}
use Rattle.std.proofs.lemmas.Bool.Decides.{nat_tests}
use Rattle.std.proofs.lemmas.Option.{slice_get_within, get_or_from_slice_get}
use Rattle.std.proofs.lemmas.List.Elements.{All-get_or}
use Rattle.js_base.specs.declared.ids.HostId.{HostId}
use Rattle.js_base.specs.declared.ids.FieldId.{FieldId}
use Rattle.js_base.specs.declared.ids.FrameId.{FrameId}
use Rattle.js_base.specs.declared.ids.VarId.{VarId}
use Rattle.js_base.specs.declared.ids.EntryId.{EntryId}
use Rattle.js_base.specs.declared.ids.SiteId.{SiteId}
use Rattle.capability.specs.declared.token.Token.{Token}
use Rattle.jif_tree.specs.Store.{row_of, element_at}
use Rattle.host_code.specs.declared.code.Entry.{Entry}
use Rattle.host_code.specs.declared.code_expr.Node.{Node}
use Rattle.host_code.specs.declared.instruction.Instr.{Instr}
use Rattle.host_code.specs.declared.instruction.Op.{Op}
use Rattle.host_code.specs.declared.instruction.Op.TheVariants as op
use Rattle.host_code.specs.declared.message.Message.TheVariants as message
use Rattle.host_code.specs.Messages.{AreOfCode}
use Rattle.host_code.specs.Thread.{ThreadShape}
use Rattle.host_code.specs.Thread.Awaited.{value_of_field, acknowledgement, token_of_entry}
use Rattle.host_code.specs.Code.{CodeShape, CodeFieldShape, field_at, entry_at, instruction_at, part_of}
use Rattle.host_code.specs.Sound.{IsHost, IsOther, IsField, IsVariable, IsSoundCode, FieldFits, IsLeaving, PartFits}
use Rattle.host_code.specs.Sound.{OperationFits, temporaries_at}
use Rattle.host_core.specs.Host.{HostState, Outcome, without_message, with_message, with_running, with_token}
use Rattle.host_core.specs.Host.{with_temporary}
use Rattle.host_core.specs.Host.{after_step, after_clearing}
use Rattle.host_core.specs.Host.{value_in_thread, next_request, after_push, after_asking, after_pop, with_variable_set}
use Rattle.host_core.specs.Host.{with_row_written, with_one_ignored}
use Rattle.host_core.specs.Turn.{with_thread, after_read, after_put, after_let, after_forward, after_frame}
use Rattle.host_core.specs.Turn.{after_own_push, after_ask, after_go, after_own_call, after_return, after_back}
use Rattle.host_core.specs.Turn.{after_go_with, riders_of, after_operation}
use Rattle.host_core.specs.Turn.{IsTurn, IsRunning, IsTurnOf}
use Rattle.host_core.specs.Fits.{OutcomeFits, StateFits, RunningFits, IsEntryOf, TokenFits}
use Rattle.host_core.proofs.Kept.{kept_ignored, kept_row, kept_variable, kept_running, kept_at_rest, kept_push}
use Rattle.host_core.proofs.Kept.{kept_frames}
use Rattle.host_core.proofs.Kept.{kept_asking, kept_pop, place_of_entry}

-- ---- hosts and places

-- hosts of different numbers are different
differ : (host me : HostId) → (host.0 == me.0) ≡ false → host ≢ me
differ host me different same = eqb-false host.0 me.0 different (ap (λ (h : HostId). h.0) same)

other_host : (code : CodeShape) (host me : HostId) → IsHost code host → (host.0 == me.0) ≡ false → IsOther code me host
other_host code host me there different = (there, differ host me different)

pub same_host : (host me : HostId) → (host.0 == me.0) ≡ true → host ≡ me
same_host host me same =
    let numbers : host.0 ≡ me.0 = grind (arith, nat_tests) in
    let make : ℕ → HostId = λ n. record { 0 = n } in
    ap make numbers

-- an instruction that does not leave the host is not its last
not_last : (part : List Instr) (at : ℕ) (instruction : Instr) → at < length part → length part ≤ at + 1
    → slice_get part at ≡ Some instruction → (IsLeaving instruction.op → ⊥)
    → ((part ≡ []) ⊎ IsSomeAnd (slice_get part (length part - 1)) (λ last. IsLeaving last.op)) → ⊥
not_last part at instruction within past there stays end =
    elim end [
      | inl none ↦ (let empty : length part ≡ 0 = ap length none in omega arith)
      | inr last ↦ (
          let place : length part - 1 ≡ at = omega arith in
          let P : Option Instr → Type 0 = λ found. IsSomeAnd found (λ last. IsLeaving last.op) in
          stays (subst P there (subst (λ (k : ℕ). P (slice_get part k)) place last)))
    ]

next_place : (code : CodeShape) (me : HostId) (at : ℕ) (instruction : Instr) → PartFits code me
    → instruction_at code me at ≡ Some instruction → (IsLeaving instruction.op → ⊥) → at + 1 < length (part_of code me)
next_place code me at instruction part there stays =
    elim (cases_lt (at + 1) (length (part_of code me))) [
      | inl less ↦ less
      | inr past ↦ absurd (not_last (part_of code me) at instruction
          (slice_get_within (part_of code me) at instruction there)
          past there stays part.end)
    ]

host_of_field : (code : CodeShape) (field : FieldId) (there : CodeFieldShape) → IsSoundCode code
    → field_at code field ≡ Some there → IsHost code there.host
host_of_field code field there sound is =
    let within : field.0 < length code.fields = slice_get_within code.fields field.0 there is in
    let same : get_or code.fields field.0 there ≡ there = get_or_from_slice_get code.fields field.0 there there is in
    let fits : FieldFits code there =
    subst (FieldFits code) same (All-get_or (FieldFits code) code.fields field.0 there within sound.fields) in
    fits.host

-- ---- the rows

-- What a row is given: the code, the state, and the running thread, which has a next instruction.
record Given (code : CodeShape) (host : HostState) (thread : ThreadShape) : Type 0 where
  sound : IsSoundCode code
  fits : StateFits code host
  runs : RunningFits code host.me thread
  next : thread.at + 1 < length (part_of code host.me)

goes_on : (code : CodeShape) (host : HostState) (thread : ThreadShape) → StateFits code host
    → RunningFits code host.me thread → OutcomeFits code host.me (with_thread host thread)
goes_on code host thread fits runs = (kept_running code host thread fits runs, tt)

read_on : (code : CodeShape) (host : HostState) (thread : ThreadShape) (field : FieldId) (place : ℤ)
    (there : CodeFieldShape)
    (here : Bool) → Given code host thread → IsField code field → IsHost code there.host
    → (there.host.0 == host.me.0) ≡ here
    → OutcomeFits code host.me (if here
    then with_thread host (with_temporary (element_at (row_of host.rows field.0) place) (after_step thread))
    else with_message (after_asking host thread.at (after_step thread) value_of_field there.host) there.host
    (message.Get (next_request host thread.at) field place))
read_on code host thread field place there true given is_field is_host here =
    goes_on code host (with_temporary (element_at (row_of host.rows field.0) place) (after_step thread)) given.fits
    (record { place = given.next; held = given.runs.held })
read_on code host thread field place there false given is_field is_host here =
    let other = other_host code there.host host.me is_host here in (
      kept_asking code host thread.at (after_step thread) value_of_field there.host given.fits given.next
          given.runs.held other,
      (other, is_field),
    )

read_kept : (code : CodeShape) (host : HostState) (thread : ThreadShape) (field : FieldId) (index : List Node)
    (there : Option CodeFieldShape) → Given code host thread → field_at code field ≡ there
    → OutcomeFits code host.me (after_read host thread field index there)
read_kept code host thread field index None given is = goes_on code host thread given.fits given.runs
read_kept code host thread field index (Some there) given is =
    read_on code host thread field (value_in_thread host thread index) there (there.host.0 == host.me.0) given
    (slice_get_within code.fields field.0 there is) (host_of_field code field there given.sound is) refl

put_on : (code : CodeShape) (host : HostState) (thread : ThreadShape) (field : FieldId) (place number : ℤ)
    (there : CodeFieldShape) (here : Bool) → Given code host thread → IsField code field → IsHost code there.host
    → (there.host.0 == host.me.0) ≡ here
    → OutcomeFits code host.me (if here
    then with_thread (with_row_written host field place number) (after_clearing thread)
    else with_message (after_asking host thread.at (after_clearing thread) acknowledgement there.host) there.host
    (message.Set (next_request host thread.at) field place number))
put_on code host thread field place number there true given is_field is_host here =
    goes_on code (with_row_written host field place number) (after_clearing thread)
    (kept_row code host field place number given.fits)
    (record { place = given.next; held = given.runs.held })
put_on code host thread field place number there false given is_field is_host here =
    let other = other_host code there.host host.me is_host here in (
      kept_asking code host thread.at (after_clearing thread) acknowledgement there.host given.fits given.next
          given.runs.held other,
      (other, is_field),
    )

put_kept : (code : CodeShape) (host : HostState) (thread : ThreadShape) (field : FieldId) (index value : List Node)
    (there : Option CodeFieldShape) → Given code host thread → field_at code field ≡ there
    → OutcomeFits code host.me (after_put host thread field index value there)
put_kept code host thread field index value None given is = goes_on code host thread given.fits given.runs
put_kept code host thread field index value (Some there) given is =
    put_on code host thread field (value_in_thread host thread index) (value_in_thread host thread value) there
    (there.host.0 == host.me.0) given
    (slice_get_within code.fields field.0 there is) (host_of_field code field there given.sound is) refl

let_kept : (code : CodeShape) (host : HostState) (thread : ThreadShape) (frame : FrameId) (variable : VarId)
    (value : List Node) → Given code host thread → OutcomeFits code host.me (after_let host thread frame variable value)
let_kept code host thread frame variable value given =
    let number = value_in_thread host thread value in
    goes_on code (with_variable_set host frame variable number) (after_clearing thread)
    (kept_variable code host frame variable number given.fits) (record { place = given.next; held = given.runs.held })

forward_kept : (code : CodeShape) (host : HostState) (at : ℕ) (later : ThreadShape) (frame : FrameId) (variable : VarId)
    (value : ℤ) (to : HostId) → StateFits code host → RunningFits code host.me later → IsOther code host.me to
    → IsVariable code variable → OutcomeFits code host.me (after_forward host at later frame variable value to)
forward_kept code host at later frame variable value to fits runs other is_variable =
    (kept_asking code host at later acknowledgement to fits runs.place runs.held other, (other, is_variable))

frame_kept : (code : CodeShape) (host : HostState) (thread : ThreadShape) (site : SiteId) → Given code host thread
    → OutcomeFits code host.me (after_frame host thread site)
frame_kept code host thread site given = (
  kept_running code _ _ (kept_frames code host site.0 (slice_index host.frames site.0 + 1) given.fits)
      (record { place = given.next; held = given.runs.held }),
  tt,
)

branch_on : (code : CodeShape) (host : HostState) (thread : ThreadShape) (target : ℕ) (zero_guard : Bool)
    → Given code host thread → target < length (part_of code host.me)
    → OutcomeFits code host.me (if zero_guard
    then with_thread host (record (after_clearing thread) { at = target })
    else with_thread host (after_clearing thread))
branch_on code host thread target true given there =
    (kept_running code host _ given.fits (record { place = there; held = given.runs.held }), tt)
branch_on code host thread target false given there =
    (kept_running code host _ given.fits (record { place = given.next; held = given.runs.held }), tt)

push_kept : (code : CodeShape) (host : HostState) (thread : ThreadShape) (entry : EntryId) (held : Option Token)
    → Given code host thread → IsSomeAnd held (TokenFits code) → IsEntryOf code host.me entry
    → OutcomeFits code host.me (after_own_push host thread entry held)
push_kept code host thread entry None given holds there = absurd holds
push_kept code host thread entry (Some held) given holds there = (
  kept_running code (after_push host entry thread.frame held) _
      (kept_push code host entry thread.frame held given.fits there holds)
      (record { place = given.next; held = given.fits.me }),
  tt,
)

ask_kept : (code : CodeShape) (host : HostState) (thread : ThreadShape) (entry : EntryId) (on : HostId)
    (held : Option Token)
    → Given code host thread → IsSomeAnd held (TokenFits code) → IsOther code host.me on
    → OutcomeFits code host.me (after_ask host thread entry on held)
ask_kept code host thread entry on None given holds other = absurd holds
ask_kept code host thread entry on (Some held) given holds other = (
  kept_asking code host thread.at (with_token None (after_step thread)) token_of_entry on given.fits given.next refl
      other,
  (other, holds),
)

go_kept : (code : CodeShape) (host : HostState) (thread : ThreadShape) (frame : FrameId) (entry : EntryId) (on : HostId)
    (held : Option Token) → StateFits code host → IsSomeAnd held (TokenFits code) → IsOther code host.me on
    → OutcomeFits code host.me (after_go host thread frame entry on held)
go_kept code host thread frame entry on None fits holds other = absurd holds
go_kept code host thread frame entry on (Some held) fits holds other = (kept_at_rest code host fits, (other, holds))

-- the variables that ride are the code's
riders_fit : (code : CodeShape) (host : HostState) (frame : FrameId) (variables : List VarId) →
    AllByRecursion (IsVariable code) variables → AreOfCode code (riders_of host frame variables)
riders_fit code host frame [] all = tt
riders_fit code host frame (variable ∷ variables) all = (all.0, riders_fit code host frame variables all.1)

go_with_kept : (code : CodeShape) (host : HostState) (thread : ThreadShape) (frame : FrameId) (entry : EntryId)
    (on : HostId) (variables : List VarId) (held : Option Token) → StateFits code host → IsSomeAnd held (TokenFits code)
    → IsOther code host.me on → AllByRecursion (IsVariable code) variables
    → OutcomeFits code host.me (after_go_with host thread frame entry on variables held)
go_with_kept code host thread frame entry on variables None fits holds other all = absurd holds
go_with_kept code host thread frame entry on variables (Some held) fits holds other all =
    (kept_at_rest code host fits, (other, (holds, riders_fit code host frame variables all)))

own_call_kept : (code : CodeShape) (host : HostState) (thread : ThreadShape) (entry : EntryId) (there : Option Entry)
    → Given code host thread → entry_at code entry ≡ there → IsSomeAnd there (λ found. found.host ≡ host.me)
    → OutcomeFits code host.me (after_own_call host thread there)
own_call_kept code host thread entry None given is on = absurd on
own_call_kept code host thread entry (Some there) given is on = (
  kept_running code host _ given.fits
      (record { place = place_of_entry code host.me entry there given.sound is on; held = given.runs.held }),
  tt,
)

call_on : (code : CodeShape) (host : HostState) (thread : ThreadShape) (entry : EntryId) (on : HostId) (here : Bool)
    → Given code host thread → IsEntryOf code on entry → IsHost code on → (on.0 == host.me.0) ≡ here
    → OutcomeFits code host.me (if here
    then after_own_call host thread (entry_at code entry)
    else after_go host thread thread.new_frame entry on thread.held)
call_on code host thread entry on true given there is_host here =
    own_call_kept code host thread entry (entry_at code entry) given refl
    (subst (λ (h : HostId). IsEntryOf code h entry) (same_host on host.me here) there)
call_on code host thread entry on false given there is_host here =
    go_kept code host thread thread.new_frame entry on thread.held given.fits given.runs.held
    (other_host code on host.me is_host here)

return_on : (code : CodeShape) (host : HostState) (thread : ThreadShape) (variable : VarId) (number : ℤ) (held : Token)
    (here passes : Bool) → Given code host thread → TokenFits code held → IsVariable code variable
    → (held.host.0 == host.me.0) ≡ here
    → OutcomeFits code host.me (if here
    then with_thread (with_variable_set host held.frame variable number) (after_clearing thread)
    else (if passes
    then after_forward host thread.at (after_clearing thread) held.frame variable number held.host
    else with_thread host (after_clearing thread)))
return_on code host thread variable number held true passes given holds is_variable here =
    goes_on code (with_variable_set host held.frame variable number) (after_clearing thread)
    (kept_variable code host held.frame variable number given.fits)
    (record { place = given.next; held = given.runs.held })
return_on code host thread variable number held false true given holds is_variable here =
    forward_kept code host thread.at (after_clearing thread) held.frame variable number held.host given.fits
    (record { place = given.next; held = given.runs.held }) (other_host code held.host host.me holds here) is_variable
return_on code host thread variable number held false false given holds is_variable here =
    goes_on code host (after_clearing thread) given.fits (record { place = given.next; held = given.runs.held })

return_kept : (code : CodeShape) (host : HostState) (thread : ThreadShape) (variable : VarId) (value : List Node)
    (held : Option Token) (passes : Bool) → Given code host thread → IsSomeAnd held (TokenFits code)
    → IsVariable code variable → OutcomeFits code host.me (after_return host thread variable value held passes)
return_kept code host thread variable value None passes given holds is_variable = absurd holds
return_kept code host thread variable value (Some held) passes given holds is_variable =
    return_on code host thread variable (value_in_thread host thread value) held (held.host.0 == host.me.0) passes
    given holds
    is_variable refl

back_on : (code : CodeShape) (host : HostState) (held : Token) (here passes : Bool) → IsSoundCode code
    → StateFits code host → TokenFits code held → (held.host.0 == host.me.0) ≡ here
    → OutcomeFits code host.me (if here
    then without_message (if passes
    then after_pop code (with_running host None) host.entries
    else with_one_ignored (with_running host None))
    else with_message (with_running host None) held.host (message.Lgoto held))
back_on code host held true true sound fits holds here = (
  kept_pop code (with_running host None) host.entries sound (kept_at_rest code host fits) fits.entries fits.stack,
  tt,
)
back_on code host held true false sound fits holds here =
    (kept_ignored code (with_running host None) (kept_at_rest code host fits), tt)
back_on code host held false passes sound fits holds here =
    (kept_at_rest code host fits, (other_host code held.host host.me holds here, holds))

back_kept : (code : CodeShape) (host : HostState) (thread : ThreadShape) (held : Option Token) (passes : Bool)
    → IsSoundCode code → StateFits code host → IsSomeAnd held (TokenFits code)
    → OutcomeFits code host.me (after_back code host thread held passes)
back_kept code host thread None passes sound fits holds = absurd holds
back_kept code host thread (Some held) passes sound fits holds =
    back_on code host held (held.host.0 == host.me.0) passes sound fits holds refl

-- ---- the instructions

-- the parts of what is known where an instruction runs
given_next : (code : CodeShape) (host : HostState) (thread : ThreadShape) (instruction : Instr) → IsSoundCode code
    → StateFits code host → RunningFits code host.me thread → instruction_at code host.me thread.at ≡ Some instruction
    → (IsLeaving instruction.op → ⊥) → Given code host thread
given_next code host thread instruction sound fits runs there stays =
    record {
      sound = sound;
      fits = fits;
      runs = runs;
      next = next_place code host.me thread.at instruction (sound.parts host.me fits.me) there stays;
    }

operation_kept : (code : CodeShape) (host : HostState) (thread : ThreadShape) (operation : Op) (count : ℕ)
    (passes : Bool)
    → IsSoundCode code → StateFits code host → RunningFits code host.me thread →
    OperationFits code host.me count operation
    → ((IsLeaving operation → ⊥) → Given code host thread)
    → OutcomeFits code host.me (after_operation code host thread operation passes)
operation_kept code host thread (op.Read field index) count passes sound fits runs names given =
    read_kept code host thread field index (field_at code field) (given (λ leaves. leaves)) refl
operation_kept code host thread (op.Let variable value) count passes sound fits runs names given =
    let_kept code host thread thread.frame variable value (given (λ leaves. leaves))
operation_kept code host thread (op.Put field index value) count passes sound fits runs names given =
    put_kept code host thread field index value (field_at code field) (given (λ leaves. leaves)) refl
operation_kept code host thread (op.Send variable to) count passes sound fits runs names given =
    forward_kept code host thread.at (after_step thread) thread.frame variable
    (host.variables thread.frame variable) to fits
    (record { place = (given (λ leaves. leaves)).next; held = runs.held }) names.1 names.0
operation_kept code host thread (op.Frame site) count passes sound fits runs names given =
    frame_kept code host thread site (given (λ leaves. leaves))
operation_kept code host thread (op.Arg variable value) count passes sound fits runs names given =
    let_kept code host thread thread.new_frame variable value (given (λ leaves. leaves))
operation_kept code host thread (op.Pass variable to) count passes sound fits runs names given =
    forward_kept code host thread.at (after_step thread) thread.new_frame variable
    (host.variables thread.new_frame variable) to
    fits (record { place = (given (λ leaves. leaves)).next; held = runs.held }) names.1 names.0
operation_kept code host thread (op.Push entry) count passes sound fits runs names given =
    push_kept code host thread entry thread.held (given (λ leaves. leaves)) runs.held names.1
operation_kept code host thread (op.Ask entry on) count passes sound fits runs names given =
    ask_kept code host thread entry on thread.held (given (λ leaves. leaves)) runs.held names.1
operation_kept code host thread (op.Go entry on) count passes sound fits runs names given =
    go_kept code host thread thread.frame entry on thread.held fits runs.held names.1
operation_kept code host thread (op.Call entry on) count passes sound fits runs names given =
    call_on code host thread entry on (on.0 == host.me.0) (given (λ leaves. leaves)) names.0.1 names.1 refl
operation_kept code host thread (op.Ret variable value) count passes sound fits runs names given =
    return_kept code host thread variable value thread.held passes (given (λ leaves. leaves)) runs.held names.0
operation_kept code host thread op.Back count passes sound fits runs names given =
    back_kept code host thread thread.held passes sound fits runs.held
operation_kept code host thread (op.Branch guard target) count passes sound fits runs names given =
    branch_on code host thread target (int_eq (value_in_thread host thread guard) (pos 0))
    (given (λ leaves. leaves)) names.1
operation_kept code host thread (op.GoWith entry on riders) count passes sound fits runs names given =
    go_with_kept code host thread thread.frame entry on riders thread.held fits runs.held names.1 names.2.1
operation_kept code host thread (op.CallWith entry on riders) count passes sound fits runs names given =
    go_with_kept code host thread thread.new_frame entry on riders thread.held fits runs.held names.1 names.2.1

running_kept : (code : CodeShape) (host : HostState) (thread : ThreadShape) (there : Option Instr) (outcome : Outcome)
    → IsSoundCode code → StateFits code host → RunningFits code host.me thread
    → instruction_at code host.me thread.at ≡ there → IsRunning code host thread there outcome
    → OutcomeFits code host.me outcome
running_kept code host thread None outcome sound fits runs is step =
    subst (OutcomeFits code host.me) step (goes_on code host thread fits runs)
running_kept code host thread (Some instruction) outcome sound fits runs is step =
    subst (OutcomeFits code host.me) step.2
    (operation_kept code host thread instruction.op
    (temporaries_at code.entries host.me (part_of code host.me) thread.at) step.0
    sound fits runs ((sound.parts host.me fits.me).instructions thread.at instruction is).operation
    (given_next code host thread instruction sound fits runs is))

thread_kept : (code : CodeShape) (host : HostState) (running : Option ThreadShape) (outcome : Outcome) →
    IsSoundCode code
    → StateFits code host → host.running ≡ running → IfSome running (RunningFits code host.me)
    → IsTurnOf code host running outcome → OutcomeFits code host.me outcome
thread_kept code host None outcome sound fits is runs step = subst (OutcomeFits code host.me) step (fits, tt)
thread_kept code host (Some thread) outcome sound fits is runs step =
    running_kept code (with_running host None) thread (instruction_at code host.me thread.at) outcome sound
    (kept_at_rest code host fits) runs refl step

pub turn_kept : (code : CodeShape) (host : HostState) (outcome : Outcome) → IsSoundCode code → StateFits code host
    → IsTurn code host outcome → OutcomeFits code host.me outcome
turn_kept code host outcome sound fits step =
    thread_kept code host host.running outcome sound fits refl fits.running step
