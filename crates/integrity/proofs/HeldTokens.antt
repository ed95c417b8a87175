-- Where the tokens of a chain are: with its entries and with the holder. So nobody else has them, and what others do
-- sends none of them to a misbehaving host.
use Rattle.std.proofs.Common.{◌≡◌, ◌∙◌, ◌⊎◌, inl, inr, ℕ, zero, suc, List, [], ◌∷◌, Option, Some}
use Rattle.std.proofs.Common.{None, refl, sym, ap, subst, arith}
use Rattle.std.specs.Prelude.{slice_get, IsSome, IsSomeAnd, IsTrue}
use Rattle.std.specs.Option.{option_map}
use Rattle.std.specs.List.{AllByRecursion}
use Rattle.std.proofs.lemmas.Option.{slice_get_within, get_or_from_slice_get}
use Rattle.js_base.specs.declared.ids.HostId.{HostId}
use Rattle.capability.specs.declared.token.Token.{Token}
use Rattle.ics_stack.specs.declared.stack.StackEntry.{StackEntry}
use Rattle.host_code.specs.declared.message.Message.{Message}
use Rattle.host_code.specs.declared.message.Message.TheVariants as message
use Rattle.host_code.specs.Code.{CodeShape}
use Rattle.host_code.specs.Thread.{WaitingShape}
use Rattle.host_core.specs.Host.{HostState}
use Rattle.event_text.specs.declared.event.BadToken.{BadToken}
use Rattle.event_text.specs.declared.event.BadToken.TheVariants.{Sent, Own}
use Rattle.event_text.specs.declared.event.BadMessage.{BadMessage}
use Rattle.event_text.specs.declared.event.BadMessage.TheVariants as bad
use Rattle.net_world.specs.Fits.{ShapeFits, OwnToken, OwnTokenIn}
use Rattle.net_world.specs.Flying.{Flight}
use Rattle.net_world.specs.Told.{token_in, token_presented, message_made}
use Rattle.net_world.specs.World.{WorldShape, state_at, misbehaves, tokens_sent}
use Rattle.token_laws.specs.Holders.{running_on, waiting_on, kept_on, in_flight, HoldsAt, IsTokenHeld, IsTokenSent}
use Rattle.token_laws.specs.Holders.{IsOld}
use Rattle.token_laws.proofs.Held.{presented_none}
use Rattle.token_laws.proofs.HeldLaws.{IsKnown, held_once, sent_some, unsent_none, fresh_none}
use Rattle.token_laws.proofs.OneToken.{only_one}
use Rattle.token_laws.proofs.Places.{held_once_or_more}
use Rattle.token_laws.proofs.WorldTokens.{Accounts}
use Rattle.token_laws.proofs.Worth.{one_of}
use Rattle.integrity.specs.Holding.{IsAmong, Holder, runs, asked, answered}
use Rattle.integrity.specs.Holding.{stuck, passes, lost, halted, first_of, token_of}
use Rattle.integrity.specs.Holding.{Waits, MessageFlies, IsThere, HasTop, OwnsRunning, OwnsMessage, AreLinked}
use Rattle.integrity.proofs.Among.{one_of_some, some_of}
use Rattle.integrity.proofs.OpenSteps.{some_each}

-- ---- where a token is

-- it is kept with an entry, or the holder has it, or nobody has
pub data IsKeptBy (world : WorldShape) (holder : Holder) (token : Token) : Type 0 where
  with_entry : (host : HostId) (place : ℕ) → HoldsAt world token (kept_on host place) → IsKeptBy world holder token
  running : (host : HostId) → OwnsRunning holder host → HoldsAt world token (running_on host) →
      IsKeptBy world holder token
  waiting : (host : HostId) (place : ℕ) → HoldsAt world token (waiting_on host place) → IsKeptBy world holder token
  flying : (from to : HostId) (place : ℕ) (flight : Flight) → slice_get (world.flying from to) place ≡ Some flight →
      OwnsMessage holder from to flight.message → HoldsAt world token (in_flight from to place) →
      IsKeptBy world holder token
  nobody : holder ≡ lost → ¬ IsTokenHeld world token → IsKeptBy world holder token

-- so somebody has it, or it is lost
pub held_or_lost : (world : WorldShape) (holder : Holder) (token : Token) → IsKeptBy world holder token →
    IsTokenHeld world token ⊎ (holder ≡ lost)
held_or_lost world holder token (with_entry host place holds) = inl (kept_on host place, holds)
held_or_lost world holder token (running host own holds) = inl (running_on host, holds)
held_or_lost world holder token (waiting host place holds) = inl (waiting_on host place, holds)
held_or_lost world holder token (flying from to place flight there own holds) = inl (in_flight from to place, holds)
held_or_lost world holder token (nobody is none) = inr is

of_waits : (world : WorldShape) (holder : Holder) (host : HostId) (thread : WaitingShape) (token : Token) →
    Waits world host thread → thread.thread.held ≡ Some token → IsKeptBy world holder token
of_waits world holder host thread token waits held =
    let at = one_of_some (state_at world host) (λ state. IsAmong state.waiting thread) waits in
    waiting host at.has.0
    (some_of (state_at world host)
    (λ state. IsSomeAnd (slice_get state.waiting at.has.0) (λ w. w.thread.held ≡ Some token)) at.one at.is
    (some_of (slice_get at.one.waiting at.has.0) (λ w. w.thread.held ≡ Some token) thread at.has.1 held))

of_flies : (world : WorldShape) (holder : Holder) (from to : HostId) (m : Message) (token : Token) →
    MessageFlies world from to m → OwnsMessage holder from to m → token_in m ≡ Some token → IsKeptBy world holder token
of_flies world holder from to m token flies own held =
    let flight = flies.flight in
    let place = flies.among.0 in
    flying from to place flight flies.among.1 (subst (OwnsMessage holder from to) (sym flies.is) own)
    (some_of (slice_get (world.flying from to) place) (λ f. token_in f.message ≡ Some token) flight flies.among.1
    (ap token_in flies.is ∙ held))

-- a thread that waits has it, or the message does
of_either : (world : WorldShape) (holder : Holder) (host : HostId) (thread : WaitingShape) (m : Message)
    (token : Token) (o : Option Token) → token_in m ≡ o → first_of o thread.thread.held ≡ Some token →
    Waits world host thread → (token_in m ≡ Some token → IsKeptBy world holder token) → IsKeptBy world holder token
of_either world holder host thread m token None is held waits flies =
    of_waits world holder host thread token waits held
of_either world holder host thread m token (Some other) is held waits flies = flies (is ∙ held)

holder_keeps : (world : WorldShape) (holder : Holder) (token : Token) → IsThere world holder →
    token_of holder ≡ Some token → IsKeptBy world holder token
holder_keeps world (runs host thread) token there held =
    running host refl
    (some_each (λ (state : HostState). state.running ≡ Some thread)
    (λ state. IsSomeAnd state.running (λ t. t.held ≡ Some token)) (state_at world host)
    (λ state is. some_of state.running (λ t. t.held ≡ Some token) thread is held) there)
holder_keeps world (asked host thread m) token there held =
    let holder = asked host thread m in
    of_either world holder host thread m token (token_in m) refl held there.0
    (of_flies world holder host thread.asked m token there.1 (refl, refl, there.2))
holder_keeps world (answered host thread m) token there held =
    let holder = answered host thread m in
    of_either world holder host thread m token (token_in m) refl held there.0
    (of_flies world holder thread.asked host m token there.1 (refl, refl, there.2))
holder_keeps world (stuck host thread) token there held =
    of_waits world (stuck host thread) host thread token there.0 held
holder_keeps world (passes from to m) token there held =
    of_flies world (passes from to m) from to m token there (refl, refl, refl) held
holder_keeps world lost token there held = absurd (cc)
holder_keeps world halted token there held = absurd (cc)

pub top_kept : (world : WorldShape) (holder : Holder) (top : StackEntry) (below : List StackEntry) →
    IsThere world holder → HasTop world (top ∷ below) holder → IsKeptBy world holder top.token
top_kept world (runs host thread) top below there has = holder_keeps world (runs host thread) top.token there has
top_kept world (asked host thread m) top below there has = holder_keeps world (asked host thread m) top.token there has
top_kept world (answered host thread m) top below there has =
    holder_keeps world (answered host thread m) top.token there has
top_kept world (stuck host thread) top below there has = holder_keeps world (stuck host thread) top.token there has
top_kept world (passes from to m) top below there has = holder_keeps world (passes from to m) top.token there has
top_kept world lost top below there has = nobody refl (has top.token refl)
top_kept world halted top below there has = absurd (cc)

-- an entry is on the stack of the host that its token names
abbrev pub StandsThere : WorldShape → StackEntry → Type 0
StandsThere world on_stack = IsSomeAnd (state_at world on_stack.token.host) (λ state. IsAmong state.entries on_stack)

pub below_held : (world : WorldShape) (one next : StackEntry) → one.kept ≡ next.token → StandsThere world one →
    (place : ℕ) × HoldsAt world next.token (kept_on one.token.host place)
below_held world one next linked there =
    let at = one_of_some (state_at world one.token.host) (λ state. IsAmong state.entries one) there in (
      at.has.0,
      some_of (state_at world one.token.host)
          (λ state. IsSomeAnd (slice_get state.entries at.has.0) (λ e. e.kept ≡ next.token)) at.one at.is
          (some_of (slice_get at.one.entries at.has.0) (λ e. e.kept ≡ next.token) one at.has.1 linked),
    )

-- one of the chain's entries has the token of each but the first
pub later_held : (world : WorldShape) (one : StackEntry) (chain : List StackEntry) (place : ℕ) (e : StackEntry) →
    AreLinked (one ∷ chain) → AllByRecursion (StandsThere world) (one ∷ chain) → slice_get chain place ≡ Some e →
    (host : HostId) × (at : ℕ) × HoldsAt world e.token (kept_on host at)
later_held world one [] place e linked standing is = absurd (cc)
later_held world one (next ∷ chain) zero e linked standing is =
    let same : next ≡ e = cc in
    let held = below_held world one next linked.0 standing.0 in (
      one.token.host,
      held.0,
      subst (λ (x : StackEntry). HoldsAt world x.token (kept_on one.token.host held.0)) same held.1,
    )
later_held world one (next ∷ chain) (suc place) e linked standing is =
    later_held world next chain place e linked.1 standing.1 is

-- that of each entry of the chain
pub chain_kept : (world : WorldShape) (holder : Holder) (chain : List StackEntry) (e : StackEntry) → AreLinked chain →
    AllByRecursion (StandsThere world) chain → IsThere world holder → HasTop world chain holder → IsAmong chain e →
    IsKeptBy world holder e.token
chain_kept world holder [] e linked standing there has among = absurd (cc)
chain_kept world holder (top ∷ chain) e linked standing there has (zero, is) =
    let same : top ≡ e = cc in
    subst (λ (x : StackEntry). IsKeptBy world holder x.token) same (top_kept world holder top chain there has)
chain_kept world holder (top ∷ chain) e linked standing there has (suc place, is) =
    let held = later_held world top chain place e linked standing is in with_entry held.0 held.1 held.2

-- ---- nobody else has it

pub not_running : (code : CodeShape) (world : WorldShape) (holder : Holder) (token : Token) (me : HostId) →
    IsKnown code world → IsSome (state_at world token.host) → ¬ IsTokenSent world token → IsKeptBy world holder token →
    HoldsAt world token (running_on me) → (OwnsRunning holder me → ⊥) → ⊥
not_running code world holder token me is obeys unsent (with_entry host place holds) also apart =
    let same = held_once code world token (kept_on host place) (running_on me) is obeys unsent holds also in
    absurd (cc)
not_running code world holder token me is obeys unsent (running host own holds) also apart =
    let same = held_once code world token (running_on host) (running_on me) is obeys unsent holds also in
    let one : host ≡ me = cc in
    apart (subst (OwnsRunning holder) one own)
not_running code world holder token me is obeys unsent (waiting host place holds) also apart =
    let same = held_once code world token (waiting_on host place) (running_on me) is obeys unsent holds also in
    absurd (cc)
not_running code world holder token me is obeys unsent (flying from to place flight there own holds) also apart =
    let same = held_once code world token (in_flight from to place) (running_on me) is obeys unsent holds also in
    absurd (cc)
not_running code world holder token me is obeys unsent (nobody is_lost none) also apart = none (running_on me, also)

pub not_flying : (code : CodeShape) (world : WorldShape) (holder : Holder) (token : Token) (from to : HostId)
    (place : ℕ) → IsKnown code world → IsSome (state_at world token.host) → ¬ IsTokenSent world token →
    IsKeptBy world holder token → HoldsAt world token (in_flight from to place) →
    ((flight : Flight) → slice_get (world.flying from to) place ≡ Some flight →
    OwnsMessage holder from to flight.message → ⊥) → ⊥
not_flying code world holder token from to place is obeys unsent (with_entry host at holds) also apart =
    let same = held_once code world token (kept_on host at) (in_flight from to place) is obeys unsent holds also in
    absurd (cc)
not_flying code world holder token from to place is obeys unsent (running host own holds) also apart =
    let same = held_once code world token (running_on host) (in_flight from to place) is obeys unsent holds also in
    absurd (cc)
not_flying code world holder token from to place is obeys unsent (waiting host at holds) also apart =
    let same = held_once code world token (waiting_on host at) (in_flight from to place) is obeys unsent holds also in
    absurd (cc)
not_flying code world holder token from to place is obeys unsent (flying sender target at flight there own holds) also
    apart =
    let same =
    held_once code world token (in_flight sender target at) (in_flight from to place) is obeys unsent holds also in
    let first : sender ≡ from = cc in
    let second : target ≡ to = cc in
    let third : at ≡ place = cc in
    apart flight
    (sym (ap (λ h. slice_get (world.flying h to) place) first) ∙ sym (ap (λ h. slice_get (world.flying sender h) place)
    second) ∙ sym (ap (λ n. slice_get (world.flying sender target) n) third) ∙ there)
    (subst (λ h. OwnsMessage holder from h flight.message) second
    (subst (λ h. OwnsMessage holder h target flight.message) first own))
not_flying code world holder token from to place is obeys unsent (nobody is_lost none) also apart =
    none (in_flight from to place, also)

-- ---- what is sent

-- A token that was made before and was not sent is not sent by an event after which somebody has it.
pub still_unsent : (code : CodeShape) (world after : WorldShape) (token : Token) (state : HostState) →
    IsKnown code world → ShapeFits code after → Accounts world after → IsOld world token →
    state_at world token.host ≡ Some state → ¬ IsTokenSent world token → IsTokenHeld after token →
    ¬ IsTokenSent after token
still_unsent code world after token state is fits step before obeys unsent held sent =
    let none = unsent_none world token unsent in
    let most = is.held.one (one_of token) token state (only_one token) obeys none in
    let presented =
    presented_none world (one_of token) token.host state step.presented step.is_presented
    (λ t more. ap (λ (x : Token). x.host) ((only_one token t).1 more)) obeys none in
    let fresh =
    fresh_none world token step.old step.host step.state.serials step.fresh step.me step.obeys step.counts before in
    let all = step.worth (one_of token) in
    let some = held_once_or_more code after token fits held in
    let more = sent_some after token sent in
    omega arith

-- ---- what is presented

not_mapped : (make : Token → Message) (o : Option Token) (token : Token) →
    ((t : Token) → make t ≡ message.Lgoto token → ⊥) → option_map make o ≡ Some (message.Lgoto token) → ⊥
not_mapped make None token never is = absurd (cc)
not_mapped make (Some t) token never is = never t (cc)

mapped : (o : Option Token) (token : Token) →
    option_map (λ known. message.Lgoto known) o ≡ Some (message.Lgoto token) → o ≡ Some token
mapped None token is = absurd (cc)
mapped (Some t) token is = let same : t ≡ token = cc in ap (λ (x : Token). Some x) same

own_or_sent : (world : WorldShape) (made : BadToken) (token : Token) → OwnToken world made →
    token_presented (tokens_sent world) made ≡ Some token →
    IsTrue (misbehaves world token.host) ⊎ IsTokenSent world token
own_or_sent world (Sent number) token own is =
    inr (
      number,
      slice_get_within (tokens_sent world) number token is,
      get_or_from_slice_get (tokens_sent world) number token token is,
    )
own_or_sent world (Own other) token own is =
    let same : other ≡ token = cc in
    inl (subst (λ (t : Token). IsTrue (misbehaves world t.host)) same own)

-- a misbehaving host gives back a token of its own, or one that was sent
pub given_back : (world : WorldShape) (made : BadMessage) (token : Token) → OwnTokenIn world made →
    message_made (tokens_sent world) made ≡ Some (message.Lgoto token) →
    IsTrue (misbehaves world token.host) ⊎ IsTokenSent world token
given_back world (bad.Get request field index) token own is = absurd (cc)
given_back world (bad.Set request field index value) token own is = absurd (cc)
given_back world (bad.Forward request frame x value) token own is = absurd (cc)
given_back world (bad.Sync request frame entry made) token own is =
    absurd (not_mapped (λ known. message.Sync request frame entry known) (token_presented (tokens_sent world) made)
    token (λ t same. cc) is)
given_back world (bad.Rgoto frame entry made) token own is =
    absurd (not_mapped (λ known. message.Rgoto frame entry known) (token_presented (tokens_sent world) made) token
    (λ t same. cc) is)
given_back world (bad.RgotoWith frame entry made riders) token own is =
    absurd (not_mapped (λ known. message.RgotoWith frame entry known riders)
    (token_presented (tokens_sent world) made) token (λ t same. cc) is)
given_back world (bad.Lgoto made) token own is =
    own_or_sent world made token own (mapped (token_presented (tokens_sent world) made) token is)
given_back world (bad.Value request value) token own is = absurd (cc)
given_back world (bad.Ack request) token own is = absurd (cc)
given_back world (bad.Token request made) token own is =
    absurd (not_mapped (λ known. message.Token request known) (token_presented (tokens_sent world) made) token
    (λ t same. cc) is)
