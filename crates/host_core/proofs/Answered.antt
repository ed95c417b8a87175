-- An answer that is awaited keeps what holds of a host of the code.
use Rattle.std.proofs.Common.{◌≡◌, ℕ, suc, ◌<◌, Bool, true, List, length, take, drop, sym, subst, refl}
use Rattle.std.specs.Prelude.{Option, Some, None, IfSome, IsSomeAnd, slice_get, position, ◌&&◌}
use Rattle.std.specs.Option.{option_map}
use Rattle.std.proofs.lemmas.Option.{slice_get_within, get_or_from_slice_get}
use Rattle.std.proofs.lemmas.List.Elements.{All-append, All-take, All-drop, All-get_or}
use Rattle.js_base.specs.declared.ids.HostId.{HostId}
use Rattle.js_base.specs.declared.ids.RequestId.{RequestId}
use Rattle.js_base.proofs.Lists.{first_passing}
use Rattle.host_code.specs.Thread.{ThreadShape, Awaited, WaitingShape}
use Rattle.host_code.specs.Thread.Awaited.{value_of_field, acknowledgement, token_of_entry}
use Rattle.host_code.specs.Code.{CodeShape, part_of}
use Rattle.capability.specs.declared.token.Token.{Token}
use Rattle.host_core.specs.Awaiting.{awaits, is_same_answer}
use Rattle.host_core.specs.Host.{HostState, with_token}
use Rattle.host_core.specs.Taking.{after_answer, place_of_awaiting}
use Rattle.host_core.specs.Fits.{StateFits, RunningFits, WaitingFits, HeldFits, TokenFits}

-- an element at a first place passes the test
passes_at : {X : Type 0} (p : X → Bool) (xs : List X) (place : ℕ) (x : X) → position p xs ≡ Some place
    → slice_get xs place ≡ Some x → p x ≡ true
passes_at {X} p xs place x is at =
    let found = first_passing p xs place is in
    let same : found.0 ≡ x = cc in
    subst (λ (y : X). p y ≡ true) same found.2

-- a thread that waits for a value or an acknowledgement holds a token
value_holds : (code : CodeShape) (waits awaited : Awaited) (held : Option Token) (request from : Bool)
    → ((is_same_answer waits awaited && request) && from) ≡ true → (awaited ≡ token_of_entry → ⊥)
    → HeldFits code waits held → IsSomeAnd held (TokenFits code)
value_holds code value_of_field awaited held request from same other fits = fits
value_holds code acknowledgement awaited held request from same other fits = fits
value_holds code token_of_entry value_of_field held request from same other fits = absurd (cc)
value_holds code token_of_entry acknowledgement held request from same other fits = absurd (cc)
value_holds code token_of_entry token_of_entry held request from same other fits = absurd (other refl)

-- the thread that was found runs
running_again : (code : CodeShape) (me : HostId) (found : Option WaitingShape) (answered : ThreadShape → ThreadShape)
    → ((waiting : WaitingShape) → found ≡ Some waiting → RunningFits code me (answered waiting.thread))
    → IfSome (option_map (λ (waiting : WaitingShape). answered waiting.thread) found) (RunningFits code me)
running_again code me None answered fits = tt
running_again code me (Some waiting) answered fits = fits waiting refl

waking_kept : (code : CodeShape) (host : HostState) (place : ℕ) (answered : ThreadShape → ThreadShape) →
    StateFits code host
    → ((waiting : WaitingShape) → slice_get host.waiting place ≡ Some waiting →
    RunningFits code host.me (answered waiting.thread))
    → StateFits code (after_answer host (Some place) answered)
waking_kept code host place answered fits runs = record {
  me = fits.me;
  rows = fits.rows;
  serials = fits.serials;
  frames = fits.frames;
  requests = fits.requests;
  running = running_again code host.me (slice_get host.waiting place) answered runs;
  waiting = All-append (WaitingFits code host.me) (take place host.waiting) (drop (suc place) host.waiting)
      (All-take (WaitingFits code host.me) place host.waiting fits.waiting)
      (All-drop (WaitingFits code host.me) (suc place) host.waiting fits.waiting);
  entries = fits.entries;
  stack = fits.stack;
}

-- what holds of the thread at a place
waiting_at : (code : CodeShape) (host : HostState) (place : ℕ) (waiting : WaitingShape) → StateFits code host
    → slice_get host.waiting place ≡ Some waiting → WaitingFits code host.me waiting
waiting_at code host place waiting fits at =
    subst (WaitingFits code host.me) (get_or_from_slice_get host.waiting place waiting waiting at)
    (All-get_or (WaitingFits code host.me) host.waiting place waiting
    (slice_get_within host.waiting place waiting at) fits.waiting)

-- a value or an acknowledgement
answered_at : (code : CodeShape) (host : HostState) (awaited : Awaited) (request : RequestId) (from : HostId)
    (answered : ThreadShape → ThreadShape) (found : Option ℕ) → StateFits code host
    → (awaited ≡ token_of_entry → ⊥)
    → ((thread : ThreadShape) → (answered thread).at ≡ thread.at) →
    ((thread : ThreadShape) → (answered thread).held ≡ thread.held)
    → place_of_awaiting host awaited request from ≡ found → StateFits code (after_answer host found answered)
answered_at code host awaited request from answered None fits other at held is = fits
answered_at code host awaited request from answered (Some place) fits other at held is =
    waking_kept code host place answered fits (λ waiting there.
    let holds = waiting_at code host place waiting fits there in
    record {
      place = subst (λ (k : ℕ). k < length (part_of code host.me)) (sym (at waiting.thread)) holds.place;
      held = subst (λ (o : Option Token). IsSomeAnd o (TokenFits code)) (sym (held waiting.thread))
          (value_holds code waiting.awaited awaited waiting.thread.held _ _
          (passes_at (awaits awaited request from) host.waiting place waiting is there) other holds.held);
    })

pub kept_answer : (code : CodeShape) (host : HostState) (awaited : Awaited) (request : RequestId) (from : HostId)
    (answered : ThreadShape → ThreadShape) → StateFits code host → (awaited ≡ token_of_entry → ⊥)
    → ((thread : ThreadShape) → (answered thread).at ≡ thread.at) →
    ((thread : ThreadShape) → (answered thread).held ≡ thread.held)
    → StateFits code (after_answer host (place_of_awaiting host awaited request from) answered)
kept_answer code host awaited request from answered fits other at held =
    answered_at code host awaited request from answered (place_of_awaiting host awaited request from) fits other at
    held refl

-- a token
token_at : (code : CodeShape) (host : HostState) (token : Token) (found : Option ℕ) → StateFits code host
    → TokenFits code token → StateFits code (after_answer host found (with_token (Some token)))
token_at code host token None fits there = fits
token_at code host token (Some place) fits there =
    waking_kept code host place (with_token (Some token)) fits (λ waiting at. record {
      place = (waiting_at code host place waiting fits at).place;
      held = there;
    })

pub kept_token : (code : CodeShape) (host : HostState) (request : RequestId) (from : HostId) (token : Token)
    → StateFits code host → TokenFits code token
    → StateFits code (after_answer host (place_of_awaiting host token_of_entry request from) (with_token (Some token)))
kept_token code host request from token fits there =
    token_at code host token (place_of_awaiting host token_of_entry request from) fits there
