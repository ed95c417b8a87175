-- The messages that misbehaving hosts were sent, and the tokens in them.
use Rattle.std.specs.Prelude.{ℕ, ◌<◌, List, [], ◌∷◌, Option, Some, None, slice_get}
use Rattle.std.specs.Option.{option_map}
use Rattle.std.specs.List.{filter_map}
use Rattle.js_base.specs.declared.ids.HostId.{HostId}
use Rattle.capability.specs.declared.token.Token.{Token}
use Rattle.host_code.specs.declared.message.Message.{Message}
use Rattle.host_code.specs.declared.message.Message.TheVariants as message
use Rattle.event_text.specs.declared.event.BadToken.{BadToken}
use Rattle.event_text.specs.declared.event.BadToken.TheVariants.{Sent, Own}
use Rattle.event_text.specs.declared.event.BadMessage.{BadMessage}
use Rattle.event_text.specs.declared.event.BadMessage.TheVariants as bad

-- a message that an obeying host sent a misbehaving one: from whom, to whom, and what
abbrev pub SentMessage : Type 0
SentMessage = HostId × HostId × Message

-- a message has one token at most
abbrev pub token_in : Message → Option Token
token_in (message.Sync request frame entry token) = Some token
token_in (message.Rgoto frame entry token) = Some token
token_in (message.RgotoWith frame entry token riders) = Some token
token_in (message.Lgoto token) = Some token
token_in (message.Token request token) = Some token
token_in _ = None

abbrev pub token_list : Option Token → List Token
token_list None = []
token_list (Some token) = token ∷ []

-- the tokens that misbehaving hosts were sent, numbered through the whole list
abbrev pub tokens_in : List SentMessage → List Token
tokens_in sent = filter_map (λ letter. token_in letter.2) sent

-- the token that a misbehaving host presents: one that such hosts were sent, by its number, or one of its own
abbrev pub token_presented : List Token → BadToken → Option Token
token_presented tokens (Sent number) = slice_get tokens number
token_presented tokens (Own token) = Some token

-- the message that a misbehaving host makes, where its token is one that it may come by
abbrev pub message_made : List Token → BadMessage → Option Message
message_made tokens (bad.Get request field index) = Some (message.Get request field index)
message_made tokens (bad.Set request field index value) = Some (message.Set request field index value)
message_made tokens (bad.Forward request frame variable value) = Some (message.Forward request frame variable value)
message_made tokens (bad.Sync request frame entry token) =
    option_map (λ known. message.Sync request frame entry known) (token_presented tokens token)
message_made tokens (bad.Rgoto frame entry token) =
    option_map (λ known. message.Rgoto frame entry known) (token_presented tokens token)
message_made tokens (bad.RgotoWith frame entry token riders) =
    option_map (λ known. message.RgotoWith frame entry known riders) (token_presented tokens token)
message_made tokens (bad.Lgoto token) = option_map (λ known. message.Lgoto known) (token_presented tokens token)
message_made tokens (bad.Value request value) = Some (message.Value request value)
message_made tokens (bad.Ack request) = Some (message.Ack request)
message_made tokens (bad.Token request token) =
    option_map (λ known. message.Token request known) (token_presented tokens token)

-- ---- in the program

-- what misbehaving hosts were sent, and for how many more messages and tokens there is room
pub record ToldShape : Type 0 where
  pub sent : List SentMessage
  pub message_room : ℕ
  pub token_room : ℕ

abbrev pub ToldHasRoom : ToldShape → Type 0
ToldHasRoom told = (0 < told.message_room) × (0 < told.token_room)
