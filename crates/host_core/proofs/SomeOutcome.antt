-- Each check of the host table passes or fails, so taking a message leaves something, and so does a turn.
use Rattle.std.proofs.Common.{◌≡◌, ℕ, Bool, true, false, List, [], ◌∷◌, Option, Some, None, ap, inl, inr, refl}
use Rattle.std.specs.Prelude.{◌↔◌, IsTrue, IsSome}
use Rattle.std.proofs.lemmas.Bool.{cases_eq}
use Rattle.js_base.specs.declared.ids.HostId.{HostId}
use Rattle.js_base.specs.declared.ids.FrameId.{FrameId}
use Rattle.js_base.specs.declared.ids.SiteId.{SiteId}
use Rattle.js_base.specs.declared.ids.VarId.{VarId}
use Rattle.js_base.proofs.Decisions.{Decided, never, both, implied, as_well, same_text}
use Rattle.capability.specs.declared.token.Token.{Token}
use Rattle.ics_stack.specs.Stack.{top_token}
use Rattle.host_code.specs.declared.message.Message.{Message}
use Rattle.host_code.specs.declared.message.Message.TheVariants as message
use Rattle.host_code.specs.declared.instruction.Instr.{Instr}
use Rattle.host_code.specs.declared.instruction.Op.{Op}
use Rattle.host_code.specs.declared.instruction.Op.TheVariants as op
use Rattle.host_code.specs.Riders.{names_of}
use Rattle.host_code.specs.Thread.{ThreadShape}
use Rattle.host_code.specs.Code.{CodeShape, CodeVariableShape, variable_at, instruction_at}
use Rattle.entry_check.specs.declared.ask.Ask.TheVariants as ask
use Rattle.entry_check.specs.Checks.{MayRide, label_at, label_of_host}
use Rattle.entry_check.proofs.Decisions.{same_host, same_entry, may_see, may}
use Rattle.host_core.specs.Host.{HostState, Outcome, with_running, without_message}
use Rattle.host_core.specs.Taking.{PassesCheck, IsTaking, after_taking}
use Rattle.host_core.specs.Turn.{PassesWith, MayReturn, IsRunning, IsTurnOf, IsTurn, after_operation}
use Rattle.host_core.specs.Turn.{with_thread}

-- ---- tokens

same_site : (first second : SiteId) → Decided (first ≡ second)
same_site first second = as_well _ _ (ap site_of) (ap (λ (site : SiteId). site.0)) (cases_eq first.0 second.0)
  where
    site_of : ℕ → SiteId
    site_of number = record { 0 = number }

same_frame : (first second : FrameId) → Decided (first ≡ second)
same_frame first second =
    as_well _ _ (λ same i. record { site = same.0 i; count = same.1 i })
    (λ same. (ap (λ (frame : FrameId). frame.site) same, ap (λ (frame : FrameId). frame.count) same))
    (both _ _ (same_site first.site second.site) (cases_eq first.count second.count))

pub same_token : (first second : Token) → Decided (first ≡ second)
same_token first second =
    as_well _ _
    (λ same i. record {
      host = same.0 i;
      frame = same.1.0 i;
      entry = same.1.1.0 i;
      serial = same.1.1.1.0 i;
      tag = same.1.1.1.1 i;
    })
    (λ same. (
      ap (λ (token : Token). token.host) same,
      (
        ap (λ (token : Token). token.frame) same,
        (
          ap (λ (token : Token). token.entry) same,
          (ap (λ (token : Token). token.serial) same, ap (λ (token : Token). token.tag) same),
        ),
      ),
    ))
    (both _ _ (same_host first.host second.host)
    (both _ _ (same_frame first.frame second.frame)
    (both _ _ (same_entry first.entry second.entry)
    (both _ _ (cases_eq first.serial second.serial) (same_text first.tag second.tag)))))

pub some_token : (found : Option Token) (token : Token) → Decided (found ≡ Some token)
some_token None token = inr (λ same. cc)
some_token (Some found) token = as_well _ _ (ap (λ one. Some one)) (λ same. cc) (same_token found token)

-- ---- taking a message

is_some : {X : Type 0} (found : Option X) → Decided (IsSome found)
is_some None = inr (λ there. cc)
is_some (Some x) = inl refl

may_ride : (code : CodeShape) (me from : HostId) (variables : List VarId) → Decided (MayRide code me from variables)
may_ride code me from [] = inl tt
may_ride code me from (variable ∷ variables) =
    both _ _ (may code me (ask.Forward variable) from) (may_ride code me from variables)

passes : (code : CodeShape) (host : HostState) (from : HostId) (taken : Message) →
    Decided (PassesCheck code host from taken)
passes code host from (message.Get request field index) = may code host.me (ask.Get field) from
passes code host from (message.Set request field index value) = may code host.me (ask.Set field) from
passes code host from (message.Forward request frame variable value) = may code host.me (ask.Forward variable) from
passes code host from (message.Sync request frame entry token) = may code host.me (ask.Enter entry) from
passes code host from (message.Rgoto frame entry token) = may code host.me (ask.Enter entry) from
passes code host from (message.RgotoWith frame entry token riders) =
    both _ _ (may code host.me (ask.Enter entry) from) (may_ride code host.me from (names_of riders))
passes code host from (message.Lgoto token) = some_token (top_token host.entries) token
passes code host from (message.Value request value) = is_some _
passes code host from (message.Ack request) = is_some _
passes code host from (message.Token request token) = is_some _

-- the truth of what is decided
truth : (P : Type 0) → Decided P → (holds : Bool) × (IsTrue holds ↔ P)
truth P (inl is) = (true, (λ _. is, λ _. refl))
truth P (inr not) = (false, (λ is. absurd (cc), λ is. absurd (not is)))

pub some_taking : (code : CodeShape) (state : HostState) (from : HostId) (taken : Message) →
    (outcome : Outcome) × IsTaking code state from taken outcome
some_taking code state from taken =
    let checked = truth _ (passes code state from taken) in
    (after_taking code state from taken checked.0, (checked.0, checked.1, refl))

-- ---- a turn

may_return : (code : CodeShape) (variable : Option CodeVariableShape) (to : HostId) →
    Decided (MayReturn code variable to)
may_return code None to = inr (λ may. may)
may_return code (Some variable) to = may_see (label_at code variable.label) (label_of_host code to)

passes_with : (code : CodeShape) (host : HostState) (operation : Op) (held : Option Token) →
    Decided (PassesWith code host operation held)
passes_with code host (op.Ret variable value) (Some held) =
    implied _ _ (never _ (cases_eq held.host.0 host.me.0)) (may_return code (variable_at code variable) held.host)
passes_with code host op.Back (Some held) =
    implied _ _ (cases_eq held.host.0 host.me.0) (some_token (top_token host.entries) held)
passes_with code host operation held = inl tt

some_running : (code : CodeShape) (host : HostState) (thread : ThreadShape) (instruction : Option Instr) →
    (outcome : Outcome) × IsRunning code host thread instruction outcome
some_running code host thread None = (with_thread host thread, refl)
some_running code host thread (Some instruction) =
    let checked = truth _ (passes_with code host instruction.op thread.held) in
    (after_operation code host thread instruction.op checked.0, (checked.0, checked.1, refl))

some_turn_of : (code : CodeShape) (host : HostState) (running : Option ThreadShape) →
    (outcome : Outcome) × IsTurnOf code host running outcome
some_turn_of code host None = (without_message host, refl)
some_turn_of code host (Some thread) =
    some_running code (with_running host None) thread (instruction_at code host.me thread.at)

pub some_turn : (code : CodeShape) (state : HostState) → (outcome : Outcome) × IsTurn code state outcome
some_turn code state = some_turn_of code state state.running
