-- Requests and answers in flight are no more than the threads that wait for them.
use Rattle.std.proofs.Common.{◌≡◌, ◌≢◌, ◌∙◌, ℕ, ◌+◌, ◌≤◌, inl, inr, Bool, true, false, List}
use Rattle.std.proofs.Common.{Option, Some, None, refl, ap, sym, subst, arith}
use Rattle.std.specs.Prelude.{slice_set, slice_index, sum_by, IfSome, IsTrue}
use Rattle.std.specs.Prelude.{◌==◌, ◌&&◌}
use Rattle.std.proofs.lemmas.Bool.Decides.{eqb_tells}
use Rattle.std.proofs.lemmas.List.{get_or-set_same}
use Rattle.std.proofs.lemmas.List.Sums.{sum_by_push}
use Rattle.js_base.specs.declared.ids.HostId.{HostId}
use Rattle.js_base.specs.declared.ids.RequestId.{RequestId}
use Rattle.host_code.specs.declared.message.Message.{Message}
use Rattle.host_code.specs.Code.{CodeShape}
use Rattle.host_code.specs.Thread.{WaitingShape}
use Rattle.host_core.specs.Host.{HostState, Outcome, next_request}
use Rattle.host_core.specs.Turn.{label_of_turn}
use Rattle.event_text.specs.declared.event.Event.{Event}
use Rattle.event_text.specs.declared.event.Event.TheVariants.{Take, Turn, Act}
use Rattle.event_text.specs.declared.event.BadMessage.{BadMessage}
use Rattle.net_world.specs.Fits.{ShapeFits}
use Rattle.net_world.specs.Flying.{Flying}
use Rattle.net_world.specs.World.{WorldShape, IsStep, IsTakeStep, IsTurnStep, IsActStep, state_at, misbehaves}
use Rattle.net_world.specs.World.{with_state, without_flight, after_sending, letter_of}
use Rattle.net_world.proofs.Fitting.{bad_differs}
use Rattle.net_world.proofs.Moved.{moved_acted, either}
use Rattle.net_world.proofs.Present.{same_id}
use Rattle.net_world.proofs.Same.{to_sender}
use Rattle.net_world.proofs.StepLaws.{take_puts, turn_puts, act_puts, same_misbehave, absent_set}
use Rattle.token_laws.proofs.Counting.{any, one_if}
use Rattle.token_laws.proofs.Counting.{between, is_request, asks, answers, waiting_for, waiting_for_from}
use Rattle.token_laws.proofs.Cells.{is_pair, posted, fewer, sent, sent_to_bad, of_all}
use Rattle.token_laws.proofs.HostRequests.{letters, IsQuiet, Requests, Replies, turn_requests, taking_requests}
use Rattle.token_laws.proofs.Sums.{grows}
use Rattle.token_laws.proofs.WorldTokens.{the_state}
use Rattle.token_laws.proofs.Tests.{parts_same, number_same, itself, different, either_way}

-- what holds of the requests of a host, where this is in flight
pub record IsAsked (flying : Flying) (host : HostId) (state : HostState) : Type 0 where
  pub from_asked : (request : RequestId) (other : HostId) →
      between (asks request) flying host other + between (answers request) flying other host
      ≤ waiting_for_from request other state.waiting
  pub apart : (request : RequestId) → waiting_for request state.waiting ≤ 1
  pub counted : (request : RequestId) → slice_index state.requests request.at ≤ request.count →
      waiting_for request state.waiting ≡ 0

-- nothing is in flight to or from a misbehaving host
abbrev pub IsCutOff : WorldShape → HostId → Type 0
IsCutOff world bad =
    (other : HostId) → (between any world.flying bad other ≡ 0) × (between any world.flying other bad ≡ 0)

pub record AreAsked (world : WorldShape) : Type 0 where
  pub hosts : (host : HostId) (state : HostState) → state_at world host ≡ Some state →
      IsAsked world.flying host state
  pub cut_off : (bad : HostId) → IsTrue (misbehaves world bad) → IsCutOff world bad

-- ---- what an answer is

none_if : (b c : Bool) → one_if c ≡ 0 → one_if (b && c) ≡ 0
none_if true c none = none
none_if false c none = refl

no_post : (kind : Message → Bool) (one other from : HostId) (letter : Option (HostId × Message)) →
    letters kind letter ≡ 0 → posted kind one other from letter ≡ 0
no_post kind one other from None none = refl
no_post kind one other from (Some letter) none = none_if (is_pair one other from letter.0) (kind letter.1) none

turned : (b c x y : Bool) → one_if x ≤ one_if y → one_if ((b && c) && x) ≤ one_if ((c && b) && y)
turned true true x y le = le
turned true false x y le = omega arith
turned false true x y le = omega arith
turned false false x y le = omega arith

-- an answer goes to the host that asked, and is one where a request was taken
answer_post : (request : RequestId) (m : Message) (host other from me : HostId) (letter : Option (HostId × Message)) →
    IfSome letter (λ (l : HostId × Message). l.0 ≡ from) →
    letters (answers request) letter ≤ one_if (asks request m) →
    posted (answers request) other host me letter ≤ one_if (is_pair host other from me && asks request m)
answer_post request m host other from me None is le = omega arith
answer_post request m host other from me (Some letter) is le =
    let same : letter.0.0 ≡ from.0 = ap (λ (h : HostId). h.0) is in
    subst (λ (n : ℕ). one_if ((other.0 == me.0 && host.0 == n) && answers request letter.1)
    ≤ one_if (is_pair host other from me && asks request m)) (sym same)
    (turned (other.0 == me.0) (host.0 == from.0) (answers request letter.1) (asks request m) le)

-- a pair's second host the other way
of_pair : (b c d x : Bool) → c ≡ d → one_if ((b && c) && x) ≤ one_if (x && d)
of_pair true true true true same = omega arith
of_pair true true false x same = absurd (cc)
of_pair true true true false same = omega arith
of_pair true false d x same = omega arith
of_pair false c d x same = omega arith

with_true : (b c n : Bool) → c ≡ true → one_if (b && n) ≤ one_if ((b && c) && n)
with_true true true n is = omega arith
with_true true false n is = absurd (cc)
with_true false c n is = omega arith

-- a message that a host sends is from no other
no_post_from : (kind : Message → Bool) (one other from : HostId) (letter : Option (HostId × Message)) →
    one.0 ≢ from.0 → posted kind one other from letter ≡ 0
no_post_from kind one other from None apart = refl
no_post_from kind one other from (Some letter) apart =
    ap (λ (b : Bool). one_if ((b && other.0 == letter.0.0) && kind letter.1)) (different one.0 from.0 apart)

-- ---- a message is taken

-- what is in flight once a host took a message of another and answered
record IsTaken (before after : Flying) (from to : HostId) (m : Message) (sent : Option (HostId × Message))
    : Type 0 where
  moved : (kind : Message → Bool) (one other : HostId) →
      between kind after one other + one_if (is_pair one other from to && kind m)
      ≤ between kind before one other + posted kind one other to sent
  back : IfSome sent (λ (letter : HostId × Message). letter.0 ≡ from)

-- the host that took it
taken_own : (before after : Flying) (from to : HostId) (m : Message) (old : HostState) (outcome : Outcome) →
    IsTaken before after from to m outcome.sent → Replies old from m outcome → IsAsked before to old →
    IsAsked after to outcome.state
taken_own before after from to m old outcome taken replies asked = record {
  from_asked = λ request other.
      let first = taken.moved (asks request) to other in
      let second = taken.moved (answers request) other to in
      let none = no_post (asks request) to other to outcome.sent (replies.none_asked request) in
      let answer = answer_post request m to other from to outcome.sent taken.back (replies.answered request) in
      let was = asked.from_asked request other in
      let ends = replies.ends request other in
      let own = with_true (other.0 == from.0) (to.0 == to.0) (answers request m) (itself to.0) in
      omega arith;
  apart = λ request.
      let was = asked.apart request in
      let le = replies.fewer (λ (w : WaitingShape). one_if (is_request w.request request)) in
      omega arith;
  counted = λ request past.
      let same = ap (λ (counts : List ℕ). slice_index counts request.at) replies.requests in
      let was = asked.counted request (omega arith) in
      let le = replies.fewer (λ (w : WaitingShape). one_if (is_request w.request request)) in
      omega arith;
}

-- any other host
taken_other : (before after : Flying) (from to host : HostId) (m : Message) (old state : HostState)
    (outcome : Outcome) → IsTaken before after from to m outcome.sent → Replies old from m outcome →
    IsAsked before host state → IsAsked after host state
taken_other before after from to host m old state outcome taken replies asked = record {
  from_asked = λ request other.
      let first = taken.moved (asks request) host other in
      let second = taken.moved (answers request) other host in
      let none = no_post (asks request) host other to outcome.sent (replies.none_asked request) in
      let answer = answer_post request m host other from to outcome.sent taken.back (replies.answered request) in
      let was = asked.from_asked request other in
      omega arith;
  apart = asked.apart;
  counted = asked.counted;
}

-- ---- a misbehaving host sends a message

-- what is in flight stays, and nothing of it is to or from that host
acted_own : (before after : Flying) (from me : HostId) (m : Message) (old : HostState) (outcome : Outcome) →
    after ≡ before →
    ((other : HostId) → (between any before from other ≡ 0) × (between any before other from ≡ 0)) →
    Replies old from m outcome → IsAsked before me old → IsAsked after me outcome.state
acted_own before after from me m old outcome same cut replies asked = record {
  from_asked = λ request other.
      let first = ap (λ (f : Flying). between (asks request) f me other) same in
      let second = ap (λ (f : Flying). between (answers request) f other me) same in
      let ends = replies.ends request other in
      elim (eqb_tells other.0 from.0) [
        | inl is ↦
            let bad : other ≡ from = same_id other from is.1 in
            let one = subst (λ (h : HostId). between any before me h ≡ 0) (sym bad) (cut me).1 in
            let two = subst (λ (h : HostId). between any before h me ≡ 0) (sym bad) (cut me).0 in
            let few = of_all (asks request) before me other in
            let less = of_all (answers request) before other me in
            omega arith
        | inr apart ↦
            let none : one_if (other.0 == from.0 && answers request m) ≡ 0 =
            ap (λ (b : Bool). one_if (b && answers request m)) (different other.0 from.0 apart.1) in
            let was = asked.from_asked request other in
            omega arith
      ];
  apart = λ request.
      let was = asked.apart request in
      let le = replies.fewer (λ (w : WaitingShape). one_if (is_request w.request request)) in
      omega arith;
  counted = λ request past.
      let counts = ap (λ (counts : List ℕ). slice_index counts request.at) replies.requests in
      let was = asked.counted request (omega arith) in
      let le = replies.fewer (λ (w : WaitingShape). one_if (is_request w.request request)) in
      omega arith;
}

still_asked : (before after : Flying) (host : HostId) (state : HostState) → after ≡ before →
    IsAsked before host state → IsAsked after host state
still_asked before after host state same asked = subst (λ (f : Flying). IsAsked f host state) (sym same) asked

-- ---- a turn

-- what is in flight once a host sent a message
abbrev IsSentOn : Flying → Flying → HostId → Option (HostId × Message) → Type 0
IsSentOn before after me letter = (kind : Message → Bool) (one other : HostId) →
    between kind after one other ≤ between kind before one other + posted kind one other me letter

quiet_own : (before after : Flying) (me : HostId) (old : HostState) (outcome : Outcome) →
    IsSentOn before after me outcome.sent → IsQuiet old outcome → IsAsked before me old →
    IsAsked after me outcome.state
quiet_own before after me old outcome moved quiet asked = record {
  from_asked = λ request other.
      let first = moved (asks request) me other in
      let second = moved (answers request) other me in
      let none = no_post (asks request) me other me outcome.sent (quiet.asks request) in
      let also = no_post (answers request) other me me outcome.sent (quiet.answers request) in
      let was = asked.from_asked request other in
      let same = ap (waiting_for_from request other) quiet.waiting in
      omega arith;
  apart = λ request.
      let was = asked.apart request in
      let same = ap (waiting_for request) quiet.waiting in
      omega arith;
  counted = λ request past.
      let counts = ap (λ (counts : List ℕ). slice_index counts request.at) quiet.requests in
      let was = asked.counted request (omega arith) in
      let same = ap (waiting_for request) quiet.waiting in
      omega arith;
}

-- what a request that is sent is
sent_request : (old : HostState) (outcome : Outcome) (one : Requests old outcome) (request : RequestId)
    (me other : HostId) →
    posted (asks request) me other me outcome.sent
    ≤ one_if (is_request (next_request old one.at) request && one.to.0 == other.0)
sent_request old outcome one request me other =
    let of : posted (asks request) me other me outcome.sent
    ≡ one_if (is_pair me other me one.to && asks request one.message) =
    ap (posted (asks request) me other me) one.sent in
    let kind : one_if (is_pair me other me one.to && asks request one.message)
    ≡ one_if (is_pair me other me one.to && is_request (next_request old one.at) request) =
    ap (λ (b : Bool). one_if (is_pair me other me one.to && b)) (one.asks request) in
    let le =
    of_pair (me.0 == me.0) (other.0 == one.to.0) (one.to.0 == other.0)
    (is_request (next_request old one.at) request) (either_way other.0 one.to.0) in
    omega arith

sent_no_answer : (old : HostState) (outcome : Outcome) (one : Requests old outcome) (request : RequestId) →
    letters (answers request) outcome.sent ≡ 0
sent_no_answer old outcome one request = ap (letters (answers request)) one.sent ∙ ap one_if (one.answers request)

-- one thread more waits for the number
one_more_for : (old : HostState) (outcome : Outcome) (one : Requests old outcome) (request : RequestId) →
    waiting_for request outcome.state.waiting
    ≡ waiting_for request old.waiting + one_if (is_request (next_request old one.at) request)
one_more_for old outcome one request =
    let f : WaitingShape → ℕ = λ w. one_if (is_request w.request request) in
    let push = sum_by_push f old.waiting one.thread in
    let all = ap (sum_by f) one.waiting in
    let its : f one.thread ≡ one_if (is_request (next_request old one.at) request) =
    ap (λ (r : RequestId). one_if (is_request r request)) one.number in
    omega arith

one_more_from : (old : HostState) (outcome : Outcome) (one : Requests old outcome) (request : RequestId)
    (other : HostId) →
    waiting_for_from request other outcome.state.waiting
    ≡ waiting_for_from request other old.waiting
    + one_if (is_request (next_request old one.at) request && one.to.0 == other.0)
one_more_from old outcome one request other =
    let f : WaitingShape → ℕ = λ w. one_if (is_request w.request request && w.asked.0 == other.0) in
    let push = sum_by_push f old.waiting one.thread in
    let all = ap (sum_by f) one.waiting in
    let its : f one.thread ≡ one_if (is_request (next_request old one.at) request && one.to.0 == other.0) =
    ap (λ (r : RequestId). one_if (is_request r request && one.thread.asked.0 == other.0)) one.number
    ∙ ap (λ (h : HostId). one_if (is_request (next_request old one.at) request && h.0 == other.0)) one.asked in
    omega arith

-- the number of a new request was not given before, and is given then
new_number : (old : HostState) (outcome : Outcome) (one : Requests old outcome) (request : RequestId) (is : Bool) →
    is_request (next_request old one.at) request ≡ is →
    (waiting_for request old.waiting ≤ 1) →
    (slice_index old.requests request.at ≤ request.count → waiting_for request old.waiting ≡ 0) →
    (waiting_for request old.waiting + one_if is ≤ 1)
    × (slice_index outcome.state.requests request.at ≤ request.count →
    waiting_for request old.waiting + one_if is ≡ 0)
new_number old outcome one request true is most none =
    let parts = parts_same _ _ is in
    let at : one.at ≡ request.at = number_same one.at request.at parts.0 in
    let count : slice_index old.requests one.at ≡ request.count =
    number_same (slice_index old.requests one.at) request.count parts.1 in
    let here : slice_index old.requests request.at ≡ request.count =
    ap (slice_index old.requests) (sym at) ∙ count in
    let nobody = none (omega arith) in
    let after : slice_index outcome.state.requests request.at ≡ slice_index old.requests one.at + 1 =
    ap (slice_index outcome.state.requests) (sym at)
    ∙ ap (λ (counts : List ℕ). slice_index counts one.at) one.requests
    ∙ get_or-set_same old.requests one.at (slice_index old.requests one.at + 1) 0 one.within in
    (omega arith, λ past. absurd (omega arith))
new_number old outcome one request false is most none =
    let grow : slice_index old.requests request.at ≤ slice_index outcome.state.requests request.at =
    subst (λ (counts : List ℕ). slice_index old.requests request.at ≤ slice_index counts request.at)
    (sym one.requests) (grows old.requests one.at request.at one.within) in
    (omega arith, λ past. let nobody = none (omega arith) in omega arith)

requests_own : (before after : Flying) (me : HostId) (old : HostState) (outcome : Outcome) →
    IsSentOn before after me outcome.sent → Requests old outcome → IsAsked before me old →
    IsAsked after me outcome.state
requests_own before after me old outcome moved one asked = record {
  from_asked = λ request other.
      let first = moved (asks request) me other in
      let second = moved (answers request) other me in
      let request_is = sent_request old outcome one request me other in
      let none =
      no_post (answers request) other me me outcome.sent (sent_no_answer old outcome one request) in
      let was = asked.from_asked request other in
      let more = one_more_from old outcome one request other in
      omega arith;
  apart = λ request.
      let new =
      new_number old outcome one request (is_request (next_request old one.at) request) refl (asked.apart request)
      (asked.counted request) in
      let more = one_more_for old outcome one request in
      let most = new.0 in
      omega arith;
  counted = λ request past.
      let new =
      new_number old outcome one request (is_request (next_request old one.at) request) refl (asked.apart request)
      (asked.counted request) in
      let more = one_more_for old outcome one request in
      let none = new.1 past in
      omega arith;
}

sent_other : (before after : Flying) (me host : HostId) (state : HostState) (letter : Option (HostId × Message)) →
    IsSentOn before after me letter → host.0 ≢ me.0 →
    ((request : RequestId) → letters (answers request) letter ≡ 0) → IsAsked before host state →
    IsAsked after host state
sent_other before after me host state letter moved apart no_answer asked = record {
  from_asked = λ request other.
      let first = moved (asks request) host other in
      let second = moved (answers request) other host in
      let none = no_post_from (asks request) host other me letter apart in
      let also = no_post (answers request) other host me letter (no_answer request) in
      let was = asked.from_asked request other in
      omega arith;
  apart = asked.apart;
  counted = asked.counted;
}

-- ---- the events

-- a host that obeys is no misbehaving one
obeys_apart : (world : WorldShape) (bad host : HostId) (state : HostState) → IsTrue (misbehaves world bad) →
    state_at world host ≡ Some state → bad.0 ≢ host.0
obeys_apart world bad host state is obeys same =
    bad_differs world bad host state is obeys (same_id bad host same)

-- the host that made a step, and all others
all_hosts : (world after : WorldShape) (me : HostId) (old state : HostState) → state_at world me ≡ Some old →
    after.hosts ≡ slice_set world.hosts me.0 (Some state) → IsAsked after.flying me state →
    ((host : HostId) (there : HostState) → host.0 ≢ me.0 → IsAsked world.flying host there →
    IsAsked after.flying host there) → AreAsked world → (host : HostId) (there : HostState) →
    state_at after host ≡ Some there → IsAsked after.flying host there
all_hosts world after me old state obeys puts own others asked host there is =
    elim (either world after me old state after.flying obeys (record { hosts = puts; flying = refl }) host there is) [
      | inl mover ↦
          subst (λ (s : HostState). IsAsked after.flying host s) (sym mover.is)
          (subst (λ (h : HostId). IsAsked after.flying h state) (sym mover.same) own)
      | inr other ↦ others host there other.apart (asked.hosts host there other.obeys)
    ]

-- a message that an obeying host sends leaves misbehaving hosts cut off
cut_off_sending : (world after : WorldShape) (me bad : HostId) (label : Option ℕ)
    (letter : Option (HostId × Message)) → IsTrue (misbehaves world bad) → bad.0 ≢ me.0 →
    after_sending world me (letter_of label letter) ≡ after → IsCutOff world bad → IsCutOff after bad
cut_off_sending world after me bad label letter is apart leaves cut = λ other.
    let first = sent any world bad other me label letter in
    let none = no_post_from any bad other me letter apart in
    let second = sent_to_bad any world other bad me label letter is in
    let was = cut other in
    let one = was.0 in
    let two = was.1 in
    let from = ap (λ (w : WorldShape). between any w.flying bad other) leaves in
    let to = ap (λ (w : WorldShape). between any w.flying other bad) leaves in (
      let n : between any after.flying bad other ≡ 0 = omega arith in n,
      let n : between any after.flying other bad ≡ 0 = omega arith in n,
    )

asked_take : (code : CodeShape) (world after : WorldShape) (from to : HostId) (place : ℕ) →
    IsTakeStep code world from to place after → AreAsked world → AreAsked after
asked_take code world after from to place step asked =
    let left = without_flight world from to place in
    let m = step.flight.message in
    let replies = taking_requests code step.state from m step.outcome step.takes in
    let taken : IsTaken world.flying after.flying from to m step.outcome.sent =
    record {
      moved = λ kind one other.
          let less = fewer kind world one other from to place step.flight step.there in
          let more =
          sent kind (with_state left to step.outcome.state) one other to (Some step.flight.label)
          step.outcome.sent in
          let is = ap (λ (w : WorldShape). between kind w.flying one other) step.leaves in
          omega arith;
      back = to_sender code step.state from m step.outcome step.takes;
    } in
    record {
      hosts = all_hosts world after to step.state step.outcome.state step.obeys
          (take_puts code world after from to place step)
          (taken_own world.flying after.flying from to m step.state step.outcome taken replies
          (asked.hosts to step.state step.obeys))
          (λ host there apart was. taken_other world.flying after.flying from to host m step.state there step.outcome
          taken replies was) asked;
      cut_off = λ bad is.
          let was : IsTrue (misbehaves world bad) =
          sym (same_misbehave code world after (Take from to place) bad step) ∙ is in
          cut_off_sending (with_state left to step.outcome.state) after to bad
          (Some step.flight.label) step.outcome.sent
          (absent_set world.hosts to.0 bad.0 step.state step.outcome.state step.obeys ∙ was)
          (obeys_apart world bad to step.state was step.obeys) step.leaves
          (λ other.
          let first = fewer any world bad other from to place step.flight step.there in
          let second = fewer any world other bad from to place step.flight step.there in
          let cut = asked.cut_off bad was other in
          let one = cut.0 in
          let two = cut.1 in (
            let n : between any left.flying bad other ≡ 0 = omega arith in n,
            let n : between any left.flying other bad ≡ 0 = omega arith in n,
          ));
    }

asked_turn : (code : CodeShape) (world after : WorldShape) (me : HostId) → ShapeFits code world →
    IsTurnStep code world me after → AreAsked world → AreAsked after
asked_turn code world after me fits step asked =
    let is_state = the_state code world me step.state fits step.obeys in
    let moved : IsSentOn world.flying after.flying me step.outcome.sent =
    λ kind one other.
    let more =
    sent kind (with_state world me step.outcome.state) one other me (label_of_turn code step.state)
    step.outcome.sent in
    let is = ap (λ (w : WorldShape). between kind w.flying one other) step.leaves in
    omega arith in
    let was = asked.hosts me step.state step.obeys in
    let whole : IsAsked after.flying me step.outcome.state
    × ((request : RequestId) → letters (answers request) step.outcome.sent ≡ 0) =
    elim (turn_requests code step.state step.outcome is_state.fits step.turns) [
      | inl quiet ↦
          (quiet_own world.flying after.flying me step.state step.outcome moved quiet was, quiet.answers)
      | inr one ↦ (
        requests_own world.flying after.flying me step.state step.outcome moved one was,
        sent_no_answer step.state step.outcome one,
      )
    ] in
    record {
      hosts = all_hosts world after me step.state step.outcome.state step.obeys (turn_puts code world after me step)
          whole.0
          (λ host there apart before. sent_other world.flying after.flying me host there step.outcome.sent moved apart
          whole.1 before) asked;
      cut_off = λ bad is.
          let bad_was : IsTrue (misbehaves world bad) =
          sym (same_misbehave code world after (Turn me) bad step) ∙ is in
          cut_off_sending (with_state world me step.outcome.state) after me bad
          (label_of_turn code step.state) step.outcome.sent
          (absent_set world.hosts me.0 bad.0 step.state step.outcome.state step.obeys ∙ bad_was)
          (obeys_apart world bad me step.state bad_was step.obeys) step.leaves (asked.cut_off bad bad_was);
    }

asked_act : (code : CodeShape) (world after : WorldShape) (from to : HostId) (made : BadMessage) →
    IsActStep code world from to made after → AreAsked world → AreAsked after
asked_act code world after from to made step asked =
    let replies = taking_requests code step.state from step.message step.outcome step.takes in
    let same : after.flying ≡ world.flying =
    (moved_acted world to step.outcome after step.leaves).flying in
    record {
      hosts = all_hosts world after to step.state step.outcome.state step.obeys
          (act_puts code world after from to made step)
          (acted_own world.flying after.flying from to step.message step.state step.outcome same
          (asked.cut_off from step.bad) replies (asked.hosts to step.state step.obeys))
          (λ host there apart was. still_asked world.flying after.flying host there same was) asked;
      cut_off = λ bad is.
          let was : IsTrue (misbehaves world bad) =
          sym (same_misbehave code world after (Act from to made) bad step) ∙ is in
          subst (λ (f : Flying). (other : HostId) → (between any f bad other ≡ 0) × (between any f other bad ≡ 0))
          (sym same) (asked.cut_off bad was);
    }

pub asked_step : (code : CodeShape) (world after : WorldShape) (event : Event) → ShapeFits code world →
    IsStep code world event after → AreAsked world → AreAsked after
asked_step code world after (Take from to place) fits step asked =
    asked_take code world after from to place step asked
asked_step code world after (Turn host) fits step asked = asked_turn code world after host fits step asked
asked_step code world after (Act from to made) fits step asked = asked_act code world after from to made step asked
