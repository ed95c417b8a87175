-- The tokens of one more message.
use Rattle.std.proofs.Common.{◌≡◌, List, [], ◌∷◌, ◌++◌, Option, Some, None, refl, ap, ◌∙◌}
use Rattle.std.specs.List.{cons_option}
use Rattle.std.proofs.lemmas.List.Elements.{filter_map-append}
use Rattle.capability.specs.declared.token.Token.{Token}
use Rattle.js_base.specs.declared.ids.HostId.{HostId}
use Rattle.host_code.specs.declared.message.Message.{Message}
use Rattle.net_world.specs.Told.{SentMessage, token_in, token_list, tokens_in}

one_more : (o : Option Token) → cons_option o [] ≡ token_list o
one_more None = refl
one_more (Some token) = refl

pub tokens_more : (sent : List SentMessage) (from to : HostId) (message : Message) →
    tokens_in (sent ++ (from, to, message) ∷ []) ≡ tokens_in sent ++ token_list (token_in message)
tokens_more sent from to message =
    filter_map-append (λ (letter : SentMessage). token_in letter.2) sent ((from, to, message) ∷ [])
    ∙ ap (λ rest. tokens_in sent ++ rest) (one_more (token_in message))
