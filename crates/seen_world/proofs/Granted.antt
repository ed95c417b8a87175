-- The host that a request of an obeying host comes to grants it.
use Rattle.std.proofs.Common.{◌≡◌, List, Some, None, sym, subst}
use Rattle.std.specs.Prelude.{◌≢◌, IfSome, IsSomeAnd, ⊤}
use Rattle.js_base.specs.declared.ids.HostId.{HostId}
use Rattle.js_base.specs.declared.ids.FrameId.{FrameId}
use Rattle.js_base.specs.declared.ids.VarId.{VarId}
use Rattle.host_code.specs.declared.instruction.Op.{Op}
use Rattle.host_code.specs.declared.instruction.Op.TheVariants as op
use Rattle.host_code.specs.declared.message.Message.{Message}
use Rattle.host_code.specs.declared.message.Message.TheVariants as message
use Rattle.host_code.specs.Riders.{names_of}
use Rattle.host_code.specs.Code.{CodeShape}
use Rattle.host_code.specs.Thread.{ThreadShape}
use Rattle.entry_check.specs.declared.ask.Ask.TheVariants as ask
use Rattle.entry_check.specs.Checks.{May, MayRide}
use Rattle.host_core.specs.Host.{HostState, Outcome, with_running}
use Rattle.host_core.specs.Taking.{IsTaking, PassesCheck, after_passing}
use Rattle.host_core.specs.Turn.{IsTurn, riders_of}
use Rattle.split_rules.specs.Asking.{IsGranted}
use Rattle.token_laws.proofs.Riding.{names_ride}
use Rattle.seen_world.specs.Eyes.{Eyes, AreEyes}
use Rattle.seen_world.specs.Points.{IsCheckedByLabels, IsGrantedTo}
use Rattle.seen_world.proofs.Answered.{taking_sends}
use Rattle.seen_world.proofs.Sendings.{EachSending, turn_sends, any_held}

-- ---- turns

-- what an instruction may let ride may ride with its message
rides : (code : CodeShape) (host : HostState) (frame : FrameId) (on : HostId) (variables : List VarId) →
    MayRide code on host.me variables → MayRide code on host.me (names_of (riders_of host frame variables))
rides code host frame on variables may = subst (MayRide code on host.me) (sym (names_ride host frame variables)) may

operation_granted : (eyes : Eyes) (host : HostState) (thread : ThreadShape) (it : Op) →
    IsGranted eyes.code host.me it →
    EachSending (IsGrantedTo eyes host.me) (λ token. ⊤) eyes.code host thread it
operation_granted eyes host thread (op.Read field index) grants = λ there is apart.
    subst (λ found. IsSomeAnd found (λ one. one.host ≢ host.me → May eyes.code one.host (ask.Get field) host.me)) is
    grants apart
operation_granted eyes host thread (op.Let x value) grants = tt
operation_granted eyes host thread (op.Put field index value) grants = λ there is apart.
    subst (λ found. IsSomeAnd found (λ one. one.host ≢ host.me → May eyes.code one.host (ask.Set field) host.me)) is
    grants apart
operation_granted eyes host thread (op.Send x on) grants = grants
operation_granted eyes host thread (op.Frame site) grants = tt
operation_granted eyes host thread (op.Arg x value) grants = tt
operation_granted eyes host thread (op.Pass x on) grants = grants
operation_granted eyes host thread (op.Push entry) grants = tt
operation_granted eyes host thread (op.Ask entry on) grants = λ token holds. grants
operation_granted eyes host thread (op.Go entry on) grants = λ token holds. grants
operation_granted eyes host thread (op.Call entry on) grants = λ apart token holds. grants apart
operation_granted eyes host thread (op.GoWith entry on riders) grants =
    λ token holds. (grants.0, rides eyes.code host thread.frame on riders grants.1)
operation_granted eyes host thread (op.CallWith entry on riders) grants =
    λ token holds. (grants.0, rides eyes.code host thread.new_frame on riders grants.1)
operation_granted eyes host thread (op.Ret x value) grants = λ token holds. grants token.host
operation_granted eyes host thread op.Back grants = λ token holds. tt
operation_granted eyes host thread (op.Branch guard target) grants = tt

pub turn_granted : (eyes : Eyes) (state : HostState) (thread : ThreadShape) (outcome : Outcome) → AreEyes eyes →
    state.running ≡ Some thread → IsTurn eyes.code state outcome →
    IfSome outcome.sent (λ sent. IsGrantedTo eyes state.me sent.0 sent.1)
turn_granted eyes state thread outcome are is turns =
    turn_sends (IsGrantedTo eyes state.me) (λ token. ⊤) eyes.code state thread outcome is turns
    (any_held thread.held) (λ there found. operation_granted eyes (with_running state None) thread there.op
    (are.granted state.me thread.at there found))

-- ---- answers, which are no requests

passing_granted : (eyes : Eyes) (host : HostState) (from : HostId) (said : Message) →
    IfSome (after_passing eyes.code host from said).sent (λ sent. IsGrantedTo eyes host.me sent.0 sent.1)
passing_granted eyes host from (message.Get request field index) = tt
passing_granted eyes host from (message.Set request field index value) = tt
passing_granted eyes host from (message.Forward request frame x value) = tt
passing_granted eyes host from (message.Sync request frame entry token) = tt
passing_granted eyes host from (message.Rgoto frame entry token) = tt
passing_granted eyes host from (message.RgotoWith frame entry token riders) = tt
passing_granted eyes host from (message.Lgoto token) = tt
passing_granted eyes host from (message.Value request value) = tt
passing_granted eyes host from (message.Ack request) = tt
passing_granted eyes host from (message.Token request token) = tt

pub answer_granted : (eyes : Eyes) (state : HostState) (from : HostId) (said : Message) (outcome : Outcome) →
    IsTaking eyes.code state from said outcome →
    IfSome outcome.sent (λ sent. IsGrantedTo eyes state.me sent.0 sent.1)
answer_granted eyes state from said outcome takes =
    let P : HostId × Message → Type 0 = λ sent. IsGrantedTo eyes state.me sent.0 sent.1 in
    subst (λ (it : Outcome). IfSome it.sent P) takes.2
    (taking_sends P eyes state from said takes.0 takes.1.0 (λ passes. passing_granted eyes state from said))

-- ---- checks

pub granted_passes : (eyes : Eyes) (host : HostState) (from : HostId) (said : Message) → IsCheckedByLabels said →
    IsGrantedTo eyes from host.me said → PassesCheck eyes.code host from said
granted_passes eyes host from (message.Get request field index) asks grants = grants
granted_passes eyes host from (message.Set request field index value) asks grants = grants
granted_passes eyes host from (message.Forward request frame x value) asks grants = grants
granted_passes eyes host from (message.Sync request frame entry token) asks grants = grants
granted_passes eyes host from (message.Rgoto frame entry token) asks grants = grants
granted_passes eyes host from (message.RgotoWith frame entry token riders) asks grants = grants
granted_passes eyes host from (message.Lgoto token) asks grants = absurd asks
granted_passes eyes host from (message.Value request value) asks grants = absurd asks
granted_passes eyes host from (message.Ack request) asks grants = absurd asks
granted_passes eyes host from (message.Token request token) asks grants = absurd asks
