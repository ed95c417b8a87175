-- What holds of each message in flight, by who sent it and where it comes to, and of each token that misbehaving hosts
-- were sent, holds after a step too where it holds of what the step sends.
use Rattle.std.proofs.Common.{◌≡◌, ℕ, Bool, true, false, List, [], Option, Some, None, refl, sym, subst}
use Rattle.std.specs.Prelude.{◌==◌, ◌&&◌, if◌then◌else◌, remove, All, IfSome, slice_get}
use Rattle.std.specs.Option.{option_map}
use Rattle.std.proofs.lemmas.List.Elements.{All-append, All-push, All-nil}
use Rattle.js_base.specs.declared.ids.HostId.{HostId}
use Rattle.capability.specs.declared.token.Token.{Token}
use Rattle.host_code.specs.declared.message.Message.{Message}
use Rattle.host_code.specs.declared.message.Message.TheVariants as message
use Rattle.host_core.specs.Host.{Letter}
use Rattle.event_text.specs.declared.event.BadToken.{BadToken}
use Rattle.event_text.specs.declared.event.BadToken.TheVariants.{Sent, Own}
use Rattle.event_text.specs.declared.event.BadMessage.{BadMessage}
use Rattle.event_text.specs.declared.event.BadMessage.TheVariants as bad
use Rattle.net_world.specs.Fits.{OwnToken, OwnTokenIn}
use Rattle.net_world.specs.Flying.{Flight, Flying, with_flights}
use Rattle.net_world.specs.Told.{token_in, token_list, tokens_in, token_presented, message_made}
use Rattle.net_world.specs.World.{WorldShape, misbehaves, tokens_sent, without_flight, after_sending, after_telling}
use Rattle.net_world.specs.World.{after_posting, letter_of}
use Rattle.net_world.proofs.Present.{same_id}
use Rattle.net_world.proofs.ToldTokens.{tokens_more}
use Rattle.token_laws.proofs.HeldLaws.{all_at}
use Rattle.token_laws.proofs.HostNumbers.{all_but}
use Rattle.token_laws.proofs.Tests.{number_same}

-- ---- what is in flight

abbrev pub FlyAs : (HostId → HostId → Flight → Type 0) → Flying → Type 0
FlyAs P flying = (from to : HostId) → All (P from to) (flying from to)

changed_at : (P : HostId → HostId → Flight → Type 0) (flying : Flying) (from to : HostId) (flights : List Flight) →
    FlyAs P flying → All (P from to) flights → (one other : HostId) (b c : Bool) →
    (one.0 == from.0) ≡ b → (other.0 == to.0) ≡ c →
    All (P one other) (if b && c then flights else flying one other)
changed_at P flying from to flights has also one other true true first second =
    let there : All (P one to) flights =
    subst (λ (h : HostId). All (P h to) flights)
    (sym (same_id one from (number_same one.0 from.0 first))) also in
    subst (λ (h : HostId). All (P one h) flights)
    (sym (same_id other to (number_same other.0 to.0 second))) there
changed_at P flying from to flights has also one other true false first second = has one other
changed_at P flying from to flights has also one other false c first second = has one other

changed : (P : HostId → HostId → Flight → Type 0) (flying : Flying) (from to : HostId) (flights : List Flight) →
    FlyAs P flying → All (P from to) flights →
    FlyAs P (with_flights flying from to flights)
changed P flying from to flights has also one other =
    changed_at P flying from to flights has also one other (one.0 == from.0) (other.0 == to.0) refl refl

-- one message was taken out
pub fly_without : (P : HostId → HostId → Flight → Type 0) (world : WorldShape) (from to : HostId) (place : ℕ) →
    FlyAs P world.flying → FlyAs P (without_flight world from to place).flying
fly_without P world from to place has =
    changed P world.flying from to (remove (world.flying from to) place) has
    (all_but (P from to) (world.flying from to) place (has from to))

either_flies : (P : HostId → HostId → Flight → Type 0) (world : WorldShape) (from : HostId) (letter : Letter)
    (tells : Bool) → FlyAs P world.flying →
    P from letter.to (record { message = letter.message; label = letter.label }) →
    FlyAs P (if tells then after_telling world from (Some (letter.to, letter.message))
    else after_posting world from letter).flying
either_flies P world from letter true has said = has
either_flies P world from letter false has said =
    changed P world.flying from letter.to _ has
    (All-push (P from letter.to) (world.flying from letter.to) _ (has from letter.to) said)

-- what is sent is in flight, or told a misbehaving host
pub fly_sent : (P : HostId → HostId → Flight → Type 0) (world : WorldShape) (from : HostId) (label : Option ℕ)
    (sent : Option (HostId × Message)) → FlyAs P world.flying →
    ((one : ℕ) → label ≡ Some one →
    IfSome sent (λ it. P from it.0 (record { message = it.1; label = one }))) →
    FlyAs P (after_sending world from (letter_of label sent)).flying
fly_sent P world from None sent has said = has
fly_sent P world from (Some label) None has said = has
fly_sent P world from (Some label) (Some sent) has said =
    either_flies P world from (record { to = sent.0; message = sent.1; label = label }) (misbehaves world sent.0) has
    (said label refl)

-- ---- tokens that were sent

listed : (Q : Token → Type 0) (token : Option Token) → IfSome token Q → All Q (token_list token)
listed Q None is = All-nil Q
listed Q (Some token) is = All-push Q [] token (All-nil Q) is

pub tell_shown : (Q : Token → Type 0) (world : WorldShape) (from : HostId) (sent : Option (HostId × Message)) →
    All Q (tokens_sent world) → IfSome sent (λ it. IfSome (token_in it.1) Q) →
    All Q (tokens_sent (after_telling world from sent))
tell_shown Q world from None has said = has
tell_shown Q world from (Some sent) has said =
    subst (All Q) (sym (tokens_more world.sent from sent.0 sent.1))
    (All-append Q (tokens_in world.sent) (token_list (token_in sent.1)) has (listed Q (token_in sent.1) said))

either_shown : (Q : Token → Type 0) (world : WorldShape) (from : HostId) (letter : Letter) (tells : Bool) →
    All Q (tokens_sent world) → (tells ≡ true → IfSome (token_in letter.message) Q) →
    All Q (tokens_sent (if tells then after_telling world from (Some (letter.to, letter.message))
    else after_posting world from letter))
either_shown Q world from letter true has said =
    tell_shown Q world from (Some (letter.to, letter.message)) has (said refl)
either_shown Q world from letter false has said = has

pub send_shown : (Q : Token → Type 0) (world : WorldShape) (from : HostId) (label : Option ℕ)
    (sent : Option (HostId × Message)) → All Q (tokens_sent world) →
    IfSome sent (λ it. misbehaves world it.0 ≡ true → IfSome (token_in it.1) Q) →
    All Q (tokens_sent (after_sending world from (letter_of label sent)))
send_shown Q world from None sent has said = has
send_shown Q world from (Some label) None has said = has
send_shown Q world from (Some label) (Some sent) has said =
    either_shown Q world from (record { to = sent.0; message = sent.1; label = label }) (misbehaves world sent.0) has
    said

-- ---- messages that misbehaving hosts make

some_of : (Q : Token → Type 0) (tokens : List Token) (number : ℕ) → All Q tokens → (found : Option Token) →
    slice_get tokens number ≡ found → IfSome found Q
some_of Q tokens number has None is = tt
some_of Q tokens number has (Some token) is = all_at Q tokens number token has is

presented : (Q : Token → Type 0) (world : WorldShape) (token : BadToken) → All Q (tokens_sent world) →
    ((own : Token) → misbehaves world own.host ≡ true → Q own) → OwnToken world token →
    IfSome (token_presented (tokens_sent world) token) Q
presented Q world (Sent number) has bad own =
    some_of Q (tokens_sent world) number has (slice_get (tokens_sent world) number) refl
presented Q world (Own token) has bad own = bad token own

made_as : (Q : Token → Type 0) (first said : Message) → Some first ≡ Some said → IfSome (token_in first) Q →
    IfSome (token_in said) Q
made_as Q first said is shows =
    let same : first ≡ said = cc in
    subst (λ (m : Message). IfSome (token_in m) Q) same shows

made_with : (Q : Token → Type 0) (make : Token → Message) (token : Option Token) (said : Message) →
    ((one : Token) → Q one → IfSome (token_in (make one)) Q) → IfSome token Q → option_map make token ≡ Some said →
    IfSome (token_in said) Q
made_with Q make None said each is makes = absurd (cc)
made_with Q make (Some token) said each is makes = made_as Q (make token) said makes (each token is)

pub made_shown : (Q : Token → Type 0) (world : WorldShape) (made : BadMessage) (said : Message) →
    All Q (tokens_sent world) → ((own : Token) → misbehaves world own.host ≡ true → Q own) → OwnTokenIn world made →
    message_made (tokens_sent world) made ≡ Some said → IfSome (token_in said) Q
made_shown Q world (bad.Get request field index) said has own its makes = made_as Q _ said makes tt
made_shown Q world (bad.Set request field index value) said has own its makes = made_as Q _ said makes tt
made_shown Q world (bad.Forward request frame variable value) said has own its makes = made_as Q _ said makes tt
made_shown Q world (bad.Sync request frame entry token) said has own its makes =
    made_with Q (λ known. message.Sync request frame entry known) _ said (λ one is. is)
    (presented Q world token has own its) makes
made_shown Q world (bad.Rgoto frame entry token) said has own its makes =
    made_with Q (λ known. message.Rgoto frame entry known) _ said (λ one is. is)
    (presented Q world token has own its) makes
made_shown Q world (bad.RgotoWith frame entry token riders) said has own its makes =
    made_with Q (λ known. message.RgotoWith frame entry known riders) _ said (λ one is. is)
    (presented Q world token has own its) makes
made_shown Q world (bad.Lgoto token) said has own its makes =
    made_with Q (λ known. message.Lgoto known) _ said (λ one is. is) (presented Q world token has own its) makes
made_shown Q world (bad.Value request value) said has own its makes = made_as Q _ said makes tt
made_shown Q world (bad.Ack request) said has own its makes = made_as Q _ said makes tt
made_shown Q world (bad.Token request token) said has own its makes =
    made_with Q (λ known. message.Token request known) _ said (λ one is. is) (presented Q world token has own its)
    makes
