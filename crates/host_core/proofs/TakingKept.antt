-- Taking a message keeps what holds of a host of the code, and what it sends fits.
use Rattle.std.proofs.Common.{◌≡◌, Bool, true, false, List, [], ◌∷◌, refl, subst}
use Rattle.std.specs.Prelude.{Option, Some, None, IsSomeAnd, IsTrue}
use Rattle.js_base.specs.declared.ids.HostId.{HostId}
use Rattle.js_base.specs.declared.ids.EntryId.{EntryId}
use Rattle.js_base.specs.declared.ids.FrameId.{FrameId}
use Rattle.capability.specs.declared.token.Token.{Token}
use Rattle.host_code.specs.declared.code.Entry.{Entry}
use Rattle.host_code.specs.declared.message.Message.{Message}
use Rattle.host_code.specs.declared.message.Message.TheVariants as message
use Rattle.host_code.specs.Thread.Awaited.{value_of_field, acknowledgement}
use Rattle.host_code.specs.Riders.{Rider}
use Rattle.host_code.specs.Code.{CodeShape, entry_at}
use Rattle.host_code.specs.Sound.{IsOther, IsSoundCode}
use Rattle.host_core.specs.Host.{HostState, Outcome, with_temporary, with_variable_set, with_variables_set}
use Rattle.host_core.specs.Host.{after_entering}
use Rattle.host_core.specs.Taking.{PassesCheck, IsTaking, after_taking}
use Rattle.host_core.specs.Fits.{OutcomeFits, StateFits, IsEntryOf, TokenFits, TokensFit}
use Rattle.host_core.proofs.Kept.{kept_ignored, kept_row, kept_variable, kept_push, kept_entering, kept_pop}
use Rattle.host_core.proofs.Answered.{kept_answer, kept_token}

-- an entry at which a host may enter is one of this host's
on_host : (me : HostId) (P Q : Entry → Type 0) (there : Option Entry)
    → IsSomeAnd there (λ found. (found.host ≡ me) × P found × Q found) → IsSomeAnd there (λ found. found.host ≡ me)
on_host me P Q None on = on
on_host me P Q (Some found) on = on.0

-- a thread that starts where variables were set
riders_kept : (code : CodeShape) (host : HostState) (entry : EntryId) (frame : FrameId) (token : Token)
    (riders : List Rider) → IsSoundCode code → StateFits code host → IsEntryOf code host.me entry → TokenFits code token
    → StateFits code (after_entering (with_variables_set host frame riders) (entry_at code entry) frame token)
riders_kept code host entry frame token [] sound fits on held = kept_entering code host entry frame token sound fits on
    held
riders_kept code host entry frame token (rider ∷ riders) sound fits on held =
    riders_kept code (with_variable_set host frame rider.0 rider.1) entry frame token riders sound
    (kept_variable code host frame rider.0 rider.1 fits) on held

message_kept : (code : CodeShape) (host : HostState) (from : HostId) (letter : Message) (passes : Bool) →
    IsSoundCode code
    → StateFits code host → IsOther code host.me from → TokensFit code letter
    → (IsTrue passes → PassesCheck code host from letter)
    → OutcomeFits code host.me (after_taking code host from letter passes)
message_kept code host from letter false sound fits other tokens check = (kept_ignored code host fits, tt)
message_kept code host from (message.Get request field index) true sound fits other tokens check = (fits, (other, tt))
message_kept code host from (message.Set request field index value) true sound fits other tokens check =
    (kept_row code host field index value fits, (other, tt))
message_kept code host from (message.Forward request frame variable value) true sound fits other tokens check =
    (kept_variable code host frame variable value fits, (other, tt))
message_kept code host from (message.Sync request frame entry token) true sound fits other tokens check = (
  kept_push code host entry frame token fits (on_host host.me _ _ (entry_at code entry) ((check refl).1)) tokens,
  (other, fits.me),
)
message_kept code host from (message.Rgoto frame entry token) true sound fits other tokens check = (
  kept_entering code host entry frame token sound fits
      (on_host host.me _ _ (entry_at code entry) ((check refl).1)) tokens,
  tt,
)
message_kept code host from (message.RgotoWith frame entry token riders) true sound fits other tokens check = (
  riders_kept code host entry frame token riders sound fits
      (on_host host.me _ _ (entry_at code entry) ((check refl).0.1)) tokens,
  tt,
)
message_kept code host from (message.Lgoto token) true sound fits other tokens check =
    (kept_pop code host host.entries sound fits fits.entries fits.stack, tt)
message_kept code host from (message.Value request value) true sound fits other tokens check = (
  kept_answer code host value_of_field request from (with_temporary value) fits (λ same. cc) (λ thread. refl)
      (λ thread. refl),
  tt,
)
message_kept code host from (message.Ack request) true sound fits other tokens check = (
  kept_answer code host acknowledgement request from (λ thread. thread) fits (λ same. cc) (λ thread. refl)
      (λ thread. refl),
  tt,
)
message_kept code host from (message.Token request token) true sound fits other tokens check =
    (kept_token code host request from token fits tokens, tt)

pub taking_kept : (code : CodeShape) (host : HostState) (from : HostId) (letter : Message) (outcome : Outcome)
    → IsSoundCode code → StateFits code host → IsOther code host.me from → TokensFit code letter
    → IsTaking code host from letter outcome → OutcomeFits code host.me outcome
taking_kept code host from letter outcome sound fits other tokens step =
    subst (OutcomeFits code host.me) step.2 (message_kept code host from letter step.0 sound fits other tokens step.1.0)
