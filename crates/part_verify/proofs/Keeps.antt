-- What an instruction sends, where a need has what it names and other hosts may see what it shows.
use Rattle.std.proofs.Common.{◌≡◌, ◌≢◌, ◌∙◌, ◌⊎◌, ℕ, List, [], ◌∷◌, Option, Some, None, ap, sym, subst, inl, inr, refl}
use Rattle.std.specs.Prelude.{Bool, true, false, ◌==◌, if◌then◌else◌, IfSome, IsSomeAnd}
use Rattle.std.specs.List.{AllByRecursion}
use Rattle.std.proofs.lemmas.Bool.{false≢true}
use Rattle.std.proofs.lemmas.Bool.Decides.{eqb_tells}
use Rattle.js_base.specs.declared.ids.HostId.{HostId}
use Rattle.js_base.specs.declared.ids.FieldId.{FieldId}
use Rattle.js_base.specs.declared.ids.FrameId.{FrameId}
use Rattle.js_base.specs.declared.ids.VarId.{VarId}
use Rattle.js_base.specs.declared.ids.EntryId.{EntryId}
use Rattle.capability.specs.declared.token.Token.{Token}
use Rattle.host_code.specs.declared.code.Entry.{Entry}
use Rattle.host_code.specs.declared.code_expr.Node.{Node}
use Rattle.host_code.specs.declared.instruction.Op.{Op}
use Rattle.host_code.specs.declared.instruction.Op.TheVariants as op
use Rattle.host_code.specs.declared.message.Message.{Message}
use Rattle.host_code.specs.declared.message.Message.TheVariants as message
use Rattle.host_code.specs.Code.{CodeShape, CodeFieldShape, field_at, entry_at}
use Rattle.host_code.specs.Thread.{ThreadShape}
use Rattle.host_code.specs.Riders.{names_of}
use Rattle.host_core.specs.Host.{HostState, Outcome, without_message, with_message, with_running, value_in_thread}
use Rattle.host_core.specs.Host.{with_variable_set, after_clearing}
use Rattle.host_core.specs.Turn.{after_operation, after_read, after_put, after_own_push, after_ask, after_go}
use Rattle.host_core.specs.Turn.{after_go_with, after_own_call, after_return, after_back, after_forward, with_thread}
use Rattle.host_core.specs.Turn.{riders_of}
use Rattle.part_verify.specs.SoundPart.{EntryWithin, FieldWithin, VariableWithin, NamesWithin, IsSeenBy, SeesVariable}
use Rattle.part_verify.specs.SoundPart.{ShowsWell}
use Rattle.part_verify.specs.Keeping.{SendsWithin, ShowsTo, IsSentByToken}

-- another number is another host
pub other_number : (host me : HostId) → (host.0 == me.0) ≡ false → host ≢ me
other_number host me other is = elim (eqb_tells host.0 me.0) [
  | inl same ↦ false≢true (sym other ∙ same.0)
  | inr apart ↦ apart.1 (ap (λ (h : HostId). h.0) is)
]

-- what is sent is within the need, and is shown to who may see it
abbrev pub Says : CodeShape → ℕ → ℕ → Op → Option (HostId × Message) → Type 0
Says code need label does sent = IfSome sent (λ letter. SendsWithin code need letter.1)
    × IfSome sent (λ letter. IsSentByToken does ⊎ ShowsTo code label letter.0 letter.1)

module _ (code : CodeShape) (host : HostState) (thread : ThreadShape) (need label : ℕ) where
  read_on : (field : FieldId) (index : List Node) (there : CodeFieldShape) (here : Bool)
      (own other : Outcome) → own.sent ≡ None → (request : Message) → other.sent ≡ Some (there.host, request) →
      SendsWithin code need request → (does : Op) → (here ≡ false → ShowsTo code label there.host request) →
      Says code need label does (if here then own else other).sent
  read_on field index there true own other silent request sends within does shows =
      subst (Says code need label does) (sym silent) (tt, tt)
  read_on field index there false own other silent request sends within does shows =
      subst (Says code need label does) (sym sends) (within, inr (shows refl))

  read_says : (field : FieldId) (index : List Node) (found : Option CodeFieldShape) →
      IsSomeAnd found (λ there. there.host ≢ host.me → IsSeenBy code label there.host) →
      Says code need label (op.Read field index) (after_read host thread field index found).sent
  read_says field index None shown = absurd shown
  read_says field index (Some there) shown =
      read_on field index there (there.host.0 == host.me.0) _ _ refl _ refl tt (op.Read field index)
      (λ other. shown (other_number there.host host.me other))

  put_says : (field : FieldId) (index value : List Node) (found : Option CodeFieldShape) → field_at code field ≡ found →
      IsSomeAnd found (λ there. there.host ≢ host.me →
      (IsSeenBy code label there.host × IsSeenBy code there.label there.host)) → FieldWithin code need field →
      Says code need label (op.Put field index value) (after_put host thread field index value found).sent
  put_says field index value None is shown within = absurd shown
  put_says field index value (Some there) is shown within =
      read_on field index there (there.host.0 == host.me.0) _ _ refl _ refl within (op.Put field index value)
      (λ other. let seen = shown (other_number there.host host.me other) in (
        seen.0,
        subst (λ (o : Option CodeFieldShape). IsSomeAnd o (λ t. IsSeenBy code t.label there.host)) (sym is)
            seen.1,
      ))

  push_says : (entry : EntryId) (held : Option Token) →
      Says code need label (op.Push entry) (after_own_push host thread entry held).sent
  push_says entry None = (tt, tt)
  push_says entry (Some held) = (tt, tt)

  ask_says : (entry : EntryId) (on : HostId) (held : Option Token) → EntryWithin code need entry →
      IsSeenBy code label on →
      Says code need label (op.Ask entry on) (after_ask host thread entry on held).sent
  ask_says entry on None within seen = (tt, tt)
  ask_says entry on (Some held) within seen = (within, inr seen)

  go_says : (does : Op) (frame : FrameId) (entry : EntryId) (on : HostId) (held : Option Token) →
      EntryWithin code need entry → IsSeenBy code label on →
      Says code need label does (after_go host thread frame entry on held).sent
  go_says does frame entry on None within seen = (tt, tt)
  go_says does frame entry on (Some held) within seen = (within, inr seen)

  own_call_says : (does : Op) (found : Option Entry) → Says code need label does (after_own_call host thread found).sent
  own_call_says does None = (tt, tt)
  own_call_says does (Some there) = (tt, tt)

  call_on : (entry : EntryId) (on : HostId) (here : Bool) → EntryWithin code need entry →
      (here ≡ false → IsSeenBy code label on) →
      Says code need label (op.Call entry on) (if here
      then after_own_call host thread (entry_at code entry)
      else after_go host thread thread.new_frame entry on thread.held).sent
  call_on entry on true within seen = own_call_says (op.Call entry on) (entry_at code entry)
  call_on entry on false within seen =
      go_says (op.Call entry on) thread.new_frame entry on thread.held within (seen refl)

  return_on : (variable : VarId) (value : List Node) (held : Token) (here passes : Bool) →
      VariableWithin code need variable →
      Says code need label (op.Ret variable value) (if here
      then with_thread (with_variable_set host held.frame variable (value_in_thread host thread value))
      (after_clearing thread)
      else (if passes
      then after_forward host thread.at (after_clearing thread) held.frame variable (value_in_thread host thread value)
      held.host
      else with_thread host (after_clearing thread))).sent
  return_on variable value held true passes within = (tt, tt)
  return_on variable value held false true within = (within, inl tt)
  return_on variable value held false false within = (tt, tt)

  return_says : (variable : VarId) (value : List Node) (held : Option Token) (passes : Bool) →
      VariableWithin code need variable →
      Says code need label (op.Ret variable value) (after_return host thread variable value held passes).sent
  return_says variable value None passes within = (tt, tt)
  return_says variable value (Some held) passes within =
      return_on variable value held (held.host.0 == host.me.0) passes within

  back_on : (held : Token) (here : Bool) (own : HostState) →
      Says code need label op.Back (if here
      then without_message own else with_message (with_running host None) held.host (message.Lgoto held)).sent
  back_on held true own = (tt, tt)
  back_on held false own = (tt, inl tt)

  back_says : (held : Option Token) (passes : Bool) →
      Says code need label op.Back (after_back code host thread held passes).sent
  back_says None passes = (tt, tt)
  back_says (Some held) passes = back_on held (held.host.0 == host.me.0) _

  branch_on : (does : Op) (zero : Bool) (first second : ThreadShape) →
      Says code need label does (if zero then with_thread host first else with_thread host second).sent
  branch_on does true first second = (tt, tt)
  branch_on does false first second = (tt, tt)

  names_again : (frame : FrameId) (variables : List VarId) → names_of (riders_of host frame variables) ≡ variables
  names_again frame [] = refl
  names_again frame (variable ∷ variables) = ap (λ rest. variable ∷ rest) (names_again frame variables)

  go_with_says : (does : Op) (frame : FrameId) (entry : EntryId) (on : HostId) (riders : List VarId)
      (held : Option Token) → EntryWithin code need entry → AllByRecursion (VariableWithin code need) riders →
      IsSeenBy code label on → AllByRecursion (SeesVariable code on) riders →
      Says code need label does (after_go_with host thread frame entry on riders held).sent
  go_with_says does frame entry on riders None within all seen sees = (tt, tt)
  go_with_says does frame entry on riders (Some held) within all seen sees = (
    (within, subst (AllByRecursion (VariableWithin code need)) (sym (names_again frame riders)) all),
    inr (seen, subst (AllByRecursion (SeesVariable code on)) (sym (names_again frame riders)) sees),
  )

  pub operation_says : (does : Op) (passes : Bool) → NamesWithin code need does → ShowsWell code host.me label does →
      Says code need label does (after_operation code host thread does passes).sent
  operation_says (op.Read field index) passes names shows = read_says field index (field_at code field) shows
  operation_says (op.Let variable value) passes names shows = (tt, tt)
  operation_says (op.Put field index value) passes names shows =
      put_says field index value (field_at code field) refl shows names
  operation_says (op.Send variable to) passes names shows = (names, inr shows)
  operation_says (op.Frame site) passes names shows = (tt, tt)
  operation_says (op.Arg variable value) passes names shows = (tt, tt)
  operation_says (op.Pass variable to) passes names shows = (names, inr shows)
  operation_says (op.Push entry) passes names shows = push_says entry thread.held
  operation_says (op.Ask entry on) passes names shows = ask_says entry on thread.held names shows
  operation_says (op.Go entry on) passes names shows =
      go_says (op.Go entry on) thread.frame entry on thread.held names shows
  operation_says (op.Call entry on) passes names shows =
      call_on entry on (on.0 == host.me.0) names (λ other. shows (other_number on host.me other))
  operation_says (op.Ret variable value) passes names shows = return_says variable value thread.held passes names
  operation_says op.Back passes names shows = back_says thread.held passes
  operation_says (op.Branch guard target) passes names shows = branch_on (op.Branch guard target) _ _ _
  operation_says (op.GoWith entry on riders) passes names shows =
      go_with_says (op.GoWith entry on riders) thread.frame entry on riders thread.held names.0 names.1 shows.0 shows.1
  operation_says (op.CallWith entry on riders) passes names shows =
      go_with_says (op.CallWith entry on riders) thread.new_frame entry on riders thread.held names.0 names.1 shows.0
      shows.1
