-- What a misbehaving host makes asks what the message asks, with whatever token.
use Rattle.std.proofs.Common.{◌≡◌, ◌∙◌, List, Option, Some, None, ap, sym, refl}
use Rattle.std.specs.Option.{option_map}
use Rattle.js_base.proofs.Options.{some_same}
use Rattle.js_base.specs.declared.ids.EntryId.{EntryId}
use Rattle.capability.specs.declared.token.Token.{Token}
use Rattle.host_code.specs.declared.message.Message.{Message}
use Rattle.host_code.specs.declared.message.Message.TheVariants as message
use Rattle.event_text.specs.declared.event.BadMessage.{BadMessage}
use Rattle.event_text.specs.declared.event.BadMessage.TheVariants as bad
use Rattle.net_world.specs.Told.{message_made, token_presented}
use Rattle.ignored_reasons.specs.declared.asked.Asked.{Asked}
use Rattle.ignored_reasons.specs.Reasons.{asked_of}
use Rattle.run_rows.specs.Asking.{asked_in}
use Rattle.run_rows.specs.Stacks.{message_pushes, made_pushes}

-- a message that is made with some token asks the same with each
with_token : (found : Option Token) (make : Token → Message) (taken : Message) (asks : Asked) →
    option_map make found ≡ Some taken → ((token : Token) → asked_of (make token) ≡ asks) → asked_of taken ≡ asks
with_token None make taken asks made each = absurd (cc)
with_token (Some token) make taken asks made each =
    ap asked_of (sym (some_same (Some (make token)) (make token) taken refl made)) ∙ each token

-- one that has none is the message
without : (made taken : Message) → Some made ≡ Some taken → asked_of taken ≡ asked_of made
without made taken same = ap asked_of (sym (some_same (Some made) made taken refl same))

pub same_asked : (tokens : List Token) (made : BadMessage) (taken : Message) → message_made tokens made ≡ Some taken →
    asked_of taken ≡ asked_in made
same_asked tokens (bad.Get request field index) taken is = without (message.Get request field index) taken is
same_asked tokens (bad.Set request field index value) taken is =
    without (message.Set request field index value) taken is
same_asked tokens (bad.Forward request frame variable value) taken is =
    without (message.Forward request frame variable value) taken is
same_asked tokens (bad.Sync request frame entry token) taken is =
    with_token (token_presented tokens token) (λ known. message.Sync request frame entry known) taken _ is
    (λ known. refl)
same_asked tokens (bad.Rgoto frame entry token) taken is =
    with_token (token_presented tokens token) (λ known. message.Rgoto frame entry known) taken _ is (λ known. refl)
same_asked tokens (bad.RgotoWith frame entry token riders) taken is =
    with_token (token_presented tokens token) (λ known. message.RgotoWith frame entry known riders) taken _ is
    (λ known. refl)
same_asked tokens (bad.Lgoto token) taken is =
    with_token (token_presented tokens token) (λ known. message.Lgoto known) taken _ is (λ known. refl)
same_asked tokens (bad.Value request value) taken is = without (message.Value request value) taken is
same_asked tokens (bad.Ack request) taken is = without (message.Ack request) taken is
same_asked tokens (bad.Token request token) taken is =
    with_token (token_presented tokens token) (λ known. message.Token request known) taken _ is (λ known. refl)

-- the same of the entry that is to be pushed
pushes_with : (found : Option Token) (make : Token → Message) (taken : Message) (pushes : Option EntryId) →
    option_map make found ≡ Some taken → ((token : Token) → message_pushes (make token) ≡ pushes) →
    message_pushes taken ≡ pushes
pushes_with None make taken pushes made each = absurd (cc)
pushes_with (Some token) make taken pushes made each =
    ap message_pushes (sym (some_same (Some (make token)) (make token) taken refl made)) ∙ each token

pushes_without : (made taken : Message) → Some made ≡ Some taken → message_pushes taken ≡ message_pushes made
pushes_without made taken same = ap message_pushes (sym (some_same (Some made) made taken refl same))

pub same_pushes : (tokens : List Token) (made : BadMessage) (taken : Message) →
    message_made tokens made ≡ Some taken → message_pushes taken ≡ made_pushes made
same_pushes tokens (bad.Get request field index) taken is = pushes_without (message.Get request field index) taken is
same_pushes tokens (bad.Set request field index value) taken is =
    pushes_without (message.Set request field index value) taken is
same_pushes tokens (bad.Forward request frame variable value) taken is =
    pushes_without (message.Forward request frame variable value) taken is
same_pushes tokens (bad.Sync request frame entry token) taken is =
    pushes_with (token_presented tokens token) (λ known. message.Sync request frame entry known) taken _ is
    (λ known. refl)
same_pushes tokens (bad.Rgoto frame entry token) taken is =
    pushes_with (token_presented tokens token) (λ known. message.Rgoto frame entry known) taken _ is (λ known. refl)
same_pushes tokens (bad.RgotoWith frame entry token riders) taken is =
    pushes_with (token_presented tokens token) (λ known. message.RgotoWith frame entry known riders) taken _ is
    (λ known. refl)
same_pushes tokens (bad.Lgoto token) taken is =
    pushes_with (token_presented tokens token) (λ known. message.Lgoto known) taken _ is (λ known. refl)
same_pushes tokens (bad.Value request value) taken is = pushes_without (message.Value request value) taken is
same_pushes tokens (bad.Ack request) taken is = pushes_without (message.Ack request) taken is
same_pushes tokens (bad.Token request token) taken is =
    pushes_with (token_presented tokens token) (λ known. message.Token request known) taken _ is (λ known. refl)
