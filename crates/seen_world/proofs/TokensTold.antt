-- No token in what a turn sends to a misbehaving host is hidden.
use Rattle.std.proofs.Common.{◌≡◌, ◌∙◌, true, false, Option, Some, None, inl, inr, sym}
use Rattle.std.specs.Prelude.{IfSome}
use Rattle.std.proofs.lemmas.Bool.{cases_Bool, false≢true}
use Rattle.js_base.specs.declared.ids.HostId.{HostId}
use Rattle.capability.specs.declared.token.Token.{Token}
use Rattle.host_code.specs.declared.instruction.Op.{Op}
use Rattle.host_code.specs.declared.instruction.Op.TheVariants as op
use Rattle.host_code.specs.declared.message.Message.{Message}
use Rattle.host_code.specs.Thread.{ThreadShape}
use Rattle.host_core.specs.Host.{HostState, Outcome, with_running}
use Rattle.host_core.specs.Turn.{IsTurn}
use Rattle.seen_world.specs.Eyes.{Eyes, AreEyes, is_open}
use Rattle.seen_world.specs.Points.{IsHiddenToken, MayHoldToken, RunsWell, ShowsNoHidden}
use Rattle.seen_world.proofs.SecretTurns.{secret_told}
use Rattle.seen_world.proofs.SeenPlaces.{under_seen}
use Rattle.seen_world.proofs.Sendings.{EachSending, turn_sends}

operation_shows : (eyes : Eyes) (Q : Token → Type 0) (host : HostState) (thread : ThreadShape) (it : Op) →
    ((token : Token) → Q token → ¬ IsHiddenToken eyes token) →
    EachSending (λ on said. ShowsNoHidden eyes said) Q eyes.code host thread it
operation_shows eyes Q host thread (op.Read field index) shown = λ there is apart. tt
operation_shows eyes Q host thread (op.Let x value) shown = tt
operation_shows eyes Q host thread (op.Put field index value) shown = λ there is apart. tt
operation_shows eyes Q host thread (op.Send x on) shown = tt
operation_shows eyes Q host thread (op.Frame site) shown = tt
operation_shows eyes Q host thread (op.Arg x value) shown = tt
operation_shows eyes Q host thread (op.Pass x on) shown = tt
operation_shows eyes Q host thread (op.Push entry) shown = tt
operation_shows eyes Q host thread (op.Ask entry on) shown = shown
operation_shows eyes Q host thread (op.Go entry on) shown = shown
operation_shows eyes Q host thread (op.Call entry on) shown = λ apart. shown
operation_shows eyes Q host thread (op.GoWith entry on riders) shown = shown
operation_shows eyes Q host thread (op.CallWith entry on riders) shown = shown
operation_shows eyes Q host thread (op.Ret x value) shown = λ token holds. tt
operation_shows eyes Q host thread op.Back shown = shown
operation_shows eyes Q host thread (op.Branch guard target) shown = tt

-- where the instruction of a turn may be seen no token in what the turn sends is hidden
pub open_shows : (eyes : Eyes) (state : HostState) (thread : ThreadShape) (outcome : Outcome) → AreEyes eyes →
    state.running ≡ Some thread → RunsWell eyes state.me thread → is_open eyes state.me thread.at ≡ true →
    IsTurn eyes.code state outcome → IfSome outcome.sent (λ sent. ShowsNoHidden eyes sent.1)
open_shows eyes state thread outcome are runs well seen turns =
    let here = eyes.shades.at state.me thread.at in
    turn_sends (λ on said. ShowsNoHidden eyes said) (MayHoldToken eyes here) eyes.code state thread outcome runs turns
    well.holds (λ there is. operation_shows eyes (MayHoldToken eyes here) (with_running state None) thread there.op
    (λ token holds. holds.1 (under_seen eyes are here.guard here.block here.pc
    (are.shaded.instructions state.me thread.at there is).is_shade.under_block seen)))

by_target : (eyes : Eyes) (sent : Option (HostId × Message)) →
    IfSome sent (λ it. eyes.bad it.0 ≡ false) → IfSome sent (λ it. eyes.bad it.0 ≡ true → ShowsNoHidden eyes it.1)
by_target eyes None obeys = tt
by_target eyes (Some it) obeys = λ bad. absurd (false≢true (sym obeys ∙ bad))

by_token : (eyes : Eyes) (sent : Option (HostId × Message)) → IfSome sent (λ it. ShowsNoHidden eyes it.1) →
    IfSome sent (λ it. eyes.bad it.0 ≡ true → ShowsNoHidden eyes it.1)
by_token eyes None shows = tt
by_token eyes (Some it) shows = λ bad. shows

pub turn_shows : (eyes : Eyes) (state : HostState) (thread : ThreadShape) (outcome : Outcome) → AreEyes eyes →
    state.running ≡ Some thread → RunsWell eyes state.me thread → IsTurn eyes.code state outcome →
    IfSome outcome.sent (λ sent. eyes.bad sent.0 ≡ true → ShowsNoHidden eyes sent.1)
turn_shows eyes state thread outcome are runs well turns = elim (cases_Bool (is_open eyes state.me thread.at)) [
  | inl seen ↦ by_token eyes outcome.sent (open_shows eyes state thread outcome are runs well seen turns)
  | inr hidden ↦ by_target eyes outcome.sent (secret_told eyes state thread outcome are runs well hidden turns)
]
