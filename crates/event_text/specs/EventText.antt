-- How events are printed: as a script says them.
use Rattle.std.specs.Prelude.{◌≡◌, ℕ, List, ◌++◌, Some, codes}
use Rattle.std.specs.Fmt.{decimal}
use Rattle.host_code.specs.Code.{CodeShape}
use Rattle.host_code.specs.MessageText.{host_text, field_text, variable_text, token_text, get_text, set_text}
use Rattle.host_code.specs.MessageText.{forward_text, sync_text, rgoto_text, lgoto_text, value_text, ack_text}
use Rattle.host_code.specs.MessageText.{answer_text, rgoto_with_text, riders_text}
use Rattle.event_text.specs.declared.event.Event.{Event}
use Rattle.event_text.specs.declared.event.Event.TheVariants.{Take, Turn, Act}
use Rattle.event_text.specs.declared.event.BadMessage.{BadMessage}
use Rattle.event_text.specs.declared.event.BadMessage.TheVariants as bad
use Rattle.event_text.specs.declared.event.BadToken.{BadToken}
use Rattle.event_text.specs.declared.event.BadToken.TheVariants.{Sent, Own}
use Rattle.event_text.specs.Events.{event_of}
use Rattle.event_text.specs.Lines.{words}

-- `#N` for the token of this number, and `own:` before one of a misbehaving host
abbrev pub bad_token_text : CodeShape → BadToken → List ℕ
bad_token_text code (Sent number) = codes "#" ++ decimal number
bad_token_text code (Own token) = codes "own:" ++ token_text code token

abbrev pub bad_message_text : CodeShape → BadMessage → List ℕ
bad_message_text code (bad.Get request field index) = get_text request (field_text code field) index
bad_message_text code (bad.Set request field index value) = set_text request (field_text code field) index value
bad_message_text code (bad.Forward request frame variable value) =
    forward_text request frame (variable_text code variable) value
bad_message_text code (bad.Sync request frame entry token) =
    sync_text request frame entry (bad_token_text code token)
bad_message_text code (bad.Rgoto frame entry token) = rgoto_text frame entry (bad_token_text code token)
bad_message_text code (bad.RgotoWith frame entry token riders) =
    rgoto_with_text frame entry (bad_token_text code token) (riders_text code riders)
bad_message_text code (bad.Lgoto token) = lgoto_text (bad_token_text code token)
bad_message_text code (bad.Value request value) = value_text request value
bad_message_text code (bad.Ack request) = ack_text request
bad_message_text code (bad.Token request token) = answer_text request (bad_token_text code token)

-- `turn HOST`, `take FROM TO PLACE` or `act FROM TO MESSAGE`
abbrev pub event_text : CodeShape → Event → List ℕ
event_text code (Turn host) = codes "turn " ++ host_text code host
event_text code (Take from to place) =
    codes "take " ++ host_text code from ++ codes " " ++ host_text code to
    ++ codes " " ++ decimal place
event_text code (Act from to made) =
    codes "act " ++ host_text code from ++ codes " " ++ host_text code to
    ++ codes " " ++ bad_message_text code made

-- Some line says the event. Bit h of the word says that host h misbehaves.
abbrev pub IsSaid : CodeShape → ℕ → Event → Type 0
IsSaid code bad event = (line : List ℕ) × (event_of code bad (words line) ≡ Some event)
