-- What the line of a take says: the host that sent a message, and the message. Its token is one that was printed, so it
-- has a tag of zeros.
use Rattle.std.specs.Prelude.{List, [], ◌∷◌, Option, Some, None, codes, if◌then◌else◌}
use Rattle.std.specs.Option.{option_map, option_and_then}
use Rattle.std.specs.Str.{bytes_eq}
use Rattle.js_base.specs.declared.ids.HostId.{HostId}
use Rattle.capability.specs.declared.token.Token.{Token}
use Rattle.host_code.specs.declared.message.Message.{Message}
use Rattle.host_code.specs.declared.message.Message.TheVariants as message
use Rattle.host_code.specs.Code.{CodeShape}
use Rattle.event_text.specs.declared.event.BadMessage.{BadMessage}
use Rattle.event_text.specs.declared.event.BadMessage.TheVariants as bad
use Rattle.event_text.specs.declared.event.BadToken.{BadToken}
use Rattle.event_text.specs.declared.event.BadToken.TheVariants.{Sent, Own}
use Rattle.event_text.specs.Acts.{printed_message}
use Rattle.event_text.specs.Parts.{host_named}
use Rattle.event_text.specs.Words.{Word, of_two, or_else}

abbrev pub token_in : BadToken → Option Token
token_in (Own token) = Some token
token_in (Sent number) = None

-- a message that has no token
abbrev pub plain_letter : BadMessage → Option Message
plain_letter (bad.Get request field index) = Some (message.Get request field index)
plain_letter (bad.Set request field index value) = Some (message.Set request field index value)
plain_letter (bad.Forward request frame variable value) = Some (message.Forward request frame variable value)
plain_letter (bad.Value request value) = Some (message.Value request value)
plain_letter (bad.Ack request) = Some (message.Ack request)
plain_letter _ = None

-- and one that has
abbrev pub token_letter : BadMessage → Option Message
token_letter (bad.Sync request frame entry token) =
    option_map (λ token. message.Sync request frame entry token) (token_in token)
token_letter (bad.Rgoto frame entry token) = option_map (λ token. message.Rgoto frame entry token) (token_in token)
token_letter (bad.RgotoWith frame entry token riders) =
    option_map (λ token. message.RgotoWith frame entry token riders) (token_in token)
token_letter (bad.Lgoto token) = option_map (λ token. message.Lgoto token) (token_in token)
token_letter (bad.Token request token) = option_map (λ token. message.Token request token) (token_in token)
token_letter _ = None

abbrev pub letter_of : BadMessage → Option Message
letter_of said = or_else (plain_letter said) (token_letter said)

-- the host that a word names, and the message that words say
abbrev pub taken_in : CodeShape → List Word → Option (HostId × Message)
taken_in code [] = None
taken_in code (name ∷ words) =
    of_two (λ from letter. (from, letter)) (host_named code.hosts name)
    (option_and_then letter_of (printed_message code words))

-- `take HOST MESSAGE`
abbrev pub taken_of : CodeShape → List Word → Option (HostId × Message)
taken_of code [] = None
taken_of code (verb ∷ words) = if bytes_eq verb (codes "take") then taken_in code words else None
