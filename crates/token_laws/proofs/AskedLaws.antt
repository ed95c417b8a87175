-- What is known of the requests of one host in a world that events lead to.
use Rattle.std.proofs.Common.{◌≡◌, ◌∙◌, ℕ, zero, suc, ◌+◌, ◌<◌, ◌≤◌, inl, inr, ℤ, Bool, true, false, List, [], ◌∷◌}
use Rattle.std.proofs.Common.{get_or, Some, None, refl, ap, sym, subst, arith}
use Rattle.std.specs.Prelude.{◌≢◌, Option, IsSome, IsSomeAnd, length, slice_get, slice_index, All, ⊤, ◌==◌, ◌&&◌}
use Rattle.std.specs.Prelude.{if◌then◌else◌}
use Rattle.std.specs.Int.{bit_at}
use Rattle.std.proofs.lemmas.Bool.{cases_lt}
use Rattle.std.proofs.lemmas.Bool.Decides.{eqb_tells}
use Rattle.std.proofs.lemmas.List.Sums.{sum_by-cons, get_or-le-sum_by, sum_by-le-sum_by}
use Rattle.js_base.specs.declared.ids.HostId.{HostId}
use Rattle.js_base.specs.declared.ids.RequestId.{RequestId}
use Rattle.host_decl.specs.Hosts as declared_hosts
use Rattle.host_code.specs.declared.message.Message.{Message}
use Rattle.host_code.specs.Code.{CodeShape, entry_at, halt}
use Rattle.host_code.specs.Thread.{WaitingShape}
use Rattle.host_core.specs.Host as host_state
use Rattle.host_core.specs.Host.{after_push, new_token}
use Rattle.host_core.specs.Start.{idle_host, root_host, main_frame, last_token}
use Rattle.event_text.specs.declared.event.Event.{Event}
use Rattle.net_world.specs.Flying.{Flight, Flying}
use Rattle.net_world.specs.World.{is_absent, state_at, WorldShape, given, hosts_before, world_at_start}
use Rattle.net_world.specs.Fits.{ShapeFits}
use Rattle.net_world.proofs.Fitting.{flight_fits}
use Rattle.net_world.proofs.Present.{same_id}
use Rattle.net_world.proofs.StepsOf.{has_some}
use Rattle.token_laws.specs.Reached.{IsReached}
use Rattle.token_laws.specs.Requests.{FlightSpot, IsNumberedAt, IsUnderWay, WaitsFor, number_asked, number_answered}
use Rattle.token_laws.proofs.Counting.{any, one_if, is_request, is_number, asks, answers, between, waiting_for}
use Rattle.token_laws.proofs.Counting.{waiting_for_from}
use Rattle.token_laws.proofs.Asked.{AreAsked, IsAsked, asked_step}
use Rattle.token_laws.proofs.HostRequests.{entering_same, request_is}
use Rattle.token_laws.proofs.Sums.{one_in, two_in, some_in}
use Rattle.token_laws.proofs.Tests.{some_true, parts_same, number_same, different, itself, both}
use Rattle.token_laws.proofs.Walks.{reached}

-- ---- the start

idle_waiting : (code : CodeShape) (store : List (List ℤ)) (key : List ℕ) (me : HostId) (root : Bool) →
    (if root then root_host code (idle_host code store key me) else idle_host code store key me).waiting ≡ []
idle_waiting code store key me true =
    let idle : host_state.HostState = idle_host code store key me in
    (entering_same (after_push idle halt main_frame (last_token me)) (entry_at code code.main) main_frame
    (new_token idle halt main_frame)).waiting
idle_waiting code store key me false = refl

none_of : (code : CodeShape) (store : List (List ℤ)) (key : List ℕ) (me : HostId) (misbehaves root : Bool)
    (state : host_state.HostState) → (if misbehaves then None else Some (if root
    then root_host code (idle_host code store key me)
    else idle_host code store key me)) ≡ Some state → state.waiting ≡ []
none_of code store key me true root state is = absurd (cc)
none_of code store key me false root state is =
    let same : (if root then root_host code (idle_host code store key me) else idle_host code store key me)
    ≡ state = cc in
    ap (λ (s : host_state.HostState). s.waiting) (sym same) ∙ idle_waiting code store key me root

none_waits : (code : CodeShape) (store : List (List ℤ)) (bad number : ℕ) (rows : List declared_hosts.HostShape)
    (place : ℕ) (state : host_state.HostState) →
    given (slice_get (hosts_before code store bad number rows) place) ≡ Some state → state.waiting ≡ []
none_waits code store bad number [] place state is = absurd (cc)
none_waits code store bad number (row ∷ rows) zero state is =
    none_of code store row.key (record { 0 = number }) (bit_at bad number == 1) (number == code.root.0) state is
none_waits code store bad number (row ∷ rows) (suc place) state is =
    none_waits code store bad (number + 1) rows place state is

asked_start : (code : CodeShape) (rows : List declared_hosts.HostShape) (bad : ℕ) (store : List (List ℤ)) →
    AreAsked (world_at_start code rows bad store)
asked_start code rows bad store = record {
  hosts = λ host state is.
      let none = none_waits code store bad 0 rows host.0 state is in
      record {
        from_asked = λ request other. omega arith;
        apart = λ request. let zero_is = ap (waiting_for request) none in omega arith;
        counted = λ request past. ap (waiting_for request) none;
      };
  cut_off = λ bad is other. (refl, refl);
}

-- ---- the laws

pub known_asked : (code : CodeShape) (rows : List declared_hosts.HostShape) (bad : ℕ) (store : List (List ℤ))
    (events : List Event) (world : WorldShape) → IsReached code rows bad store events world → AreAsked world
known_asked code rows bad store events world reach =
    let is =
    reached code rows bad store events world (λ event. ⊤) AreAsked reach (λ k d lt. tt)
    (λ w after event fits own q step asked. asked_step code w after event fits step asked)
    (asked_start code rows bad store) in
    is.1

-- ---- messages under way

itself_is : (request : RequestId) → is_request request request ≡ true
itself_is request = both _ _ (itself request.at) (itself request.count)

-- a message of a kind is in flight at a place
record Found (flying : Flying) (kind : Message → Bool) (from to : HostId) (place : ℕ) : Type 0 where
  flight : Flight
  is_there : slice_get (flying from to) place ≡ Some flight
  one : one_if (kind flight.message) ≡ 1

abbrev spot_at : HostId → HostId → ℕ → FlightSpot
spot_at from to place = record { from = from; to = to; place = place }

spot_is : (spot : FlightSpot) (from to : HostId) → spot.from ≡ from → spot.to ≡ to → spot ≡ spot_at from to spot.place
spot_is spot from to first second =
    ap (λ (h : HostId). spot_at h spot.to spot.place) first ∙ ap (λ (h : HostId). spot_at from h spot.place) second

found : (world : WorldShape) (spot : FlightSpot) (from to : HostId) (number_of : Message → Option RequestId)
    (request : RequestId) → spot.from ≡ from → spot.to ≡ to → IsNumberedAt world spot number_of request →
    Found world.flying (λ m. is_number request (number_of m)) from to spot.place
found world spot from to number_of request first second has =
    let at =
    has_some (slice_get (world.flying from to) spot.place) (λ flight. number_of flight.message ≡ Some request)
    (subst (λ (s : FlightSpot). IsNumberedAt world s number_of request) (spot_is spot from to first second) has) in
    record {
      flight = at.0;
      is_there = at.1;
      one = ap (λ (o : Option RequestId). one_if (is_number request o)) at.2 ∙ ap one_if (itself_is request);
    }

found_one : (flying : Flying) (kind : Message → Bool) (from to : HostId) (place : ℕ) →
    Found flying kind from to place → 1 ≤ between kind flying from to
found_one flying kind from to place at =
    let all =
    one_in (λ (f : Flight). one_if (kind f.message)) (flying from to) place at.flight at.is_there in
    let one = at.one in
    omega arith

-- two of a kind are one, or there are two
found_two : (flying : Flying) (kind : Message → Bool) (from to : HostId) (first second : ℕ) →
    Found flying kind from to first → Found flying kind from to second → between kind flying from to ≤ 1 →
    first ≡ second
found_two flying kind from to first second at also most = elim (eqb_tells first second) [
  | inl same ↦ same.1
  | inr apart ↦
      let all =
      two_in (λ (f : Flight). one_if (kind f.message)) (flying from to) first second at.flight also.flight at.is_there
      also.is_there apart.1 in
      let one = at.one in
      let other = also.one in
      absurd (omega arith)
]

-- what is under way is some of what is counted
under_way_one : (world : WorldShape) (host other : HostId) (request : RequestId) (spot : FlightSpot) →
    IsUnderWay world host other request spot →
    1 ≤ between (asks request) world.flying host other + between (answers request) world.flying other host
under_way_one world host other request spot (inl asking) =
    let at = found world spot host other number_asked request asking.0 asking.1 asking.2 in
    let one = found_one world.flying (asks request) host other spot.place at in
    omega arith
under_way_one world host other request spot (inr answering) =
    let at = found world spot other host number_answered request answering.0 answering.1 answering.2 in
    let one = found_one world.flying (answers request) other host spot.place at in
    omega arith

same_spot : (world : WorldShape) (host other : HostId) (request : RequestId) (first second : FlightSpot) →
    between (asks request) world.flying host other + between (answers request) world.flying other host ≤ 1 →
    IsUnderWay world host other request first → IsUnderWay world host other request second → first ≡ second
same_spot world host other request first second most (inl asking) (inl also) =
    let place =
    found_two world.flying (asks request) host other first.place second.place
    (found world first host other number_asked request asking.0 asking.1 asking.2)
    (found world second host other number_asked request also.0 also.1 also.2) (omega arith) in
    spot_is first host other asking.0 asking.1 ∙ ap (spot_at host other) place
    ∙ sym (spot_is second host other also.0 also.1)
same_spot world host other request first second most (inl asking) (inr answering) =
    let one =
    found_one world.flying (asks request) host other first.place
    (found world first host other number_asked request asking.0 asking.1 asking.2) in
    let two =
    found_one world.flying (answers request) other host second.place
    (found world second other host number_answered request answering.0 answering.1 answering.2) in
    absurd (omega arith)
same_spot world host other request first second most (inr answering) (inl asking) =
    let one =
    found_one world.flying (asks request) host other second.place
    (found world second host other number_asked request asking.0 asking.1 asking.2) in
    let two =
    found_one world.flying (answers request) other host first.place
    (found world first other host number_answered request answering.0 answering.1 answering.2) in
    absurd (omega arith)
same_spot world host other request first second most (inr answering) (inr also) =
    let place =
    found_two world.flying (answers request) other host first.place second.place
    (found world first other host number_answered request answering.0 answering.1 answering.2)
    (found world second other host number_answered request also.0 also.1 also.2) (omega arith) in
    spot_is first other host answering.0 answering.1 ∙ ap (spot_at other host) place
    ∙ sym (spot_is second other host also.0 also.1)

-- ---- threads that wait

some_if : (b c : Bool) → one_if (b && c) ≤ one_if b
some_if true true = omega arith
some_if true false = omega arith
some_if false c = omega arith

from_few : (request : RequestId) (other : HostId) (threads : List WaitingShape) →
    waiting_for_from request other threads ≤ waiting_for request threads
from_few request other threads =
    sum_by-le-sum_by (λ (w : WaitingShape). one_if (is_request w.request request && w.asked.0 == other.0))
    (λ (w : WaitingShape). one_if (is_request w.request request)) threads
    (λ w. some_if (is_request w.request request) (w.asked.0 == other.0))

none_if : (b c : Bool) → c ≡ false → one_if (b && c) ≡ 0
none_if true c is = ap one_if is
none_if false c is = refl

-- a thread waits for one host
one_asked : (b : Bool) (asked first second : ℕ) → first ≢ second →
    one_if (b && asked == first) + one_if (b && asked == second) ≤ one_if b
one_asked b asked first second apart = elim (eqb_tells asked first) [
  | inl same ↦
      let none = none_if b (asked == second) (different asked second (λ is. apart (sym same.1 ∙ is))) in
      let most = some_if b (asked == first) in
      omega arith
  | inr other ↦
      let none = none_if b (asked == first) (different asked first other.1) in
      let most = some_if b (asked == second) in
      omega arith
]

two_from : (request : RequestId) (first second : HostId) (threads : List WaitingShape) → first.0 ≢ second.0 →
    waiting_for_from request first threads + waiting_for_from request second threads ≤ waiting_for request threads
two_from request first second [] apart = omega arith
two_from request first second (one ∷ threads) apart =
    let f : HostId → WaitingShape → ℕ =
    λ other w. one_if (is_request w.request request && w.asked.0 == other.0) in
    let left = sum_by-cons (f first) one threads in
    let right = sum_by-cons (f second) one threads in
    let all = sum_by-cons (λ (w : WaitingShape). one_if (is_request w.request request)) one threads in
    let here = one_asked (is_request one.request request) one.asked.0 first.0 second.0 apart in
    let rest = two_from request first second threads apart in
    omega arith

waits_for : (state : host_state.HostState) (request : RequestId) (other : HostId) →
    0 < waiting_for_from request other state.waiting → WaitsFor state request other
waits_for state request other more =
    let at =
    some_in (λ (w : WaitingShape). one_if (is_request w.request request && w.asked.0 == other.0)) state.waiting more in
    let parts = parts_same _ _ (some_true _ at.more) in (
      at.place,
      subst (λ (o : Option WaitingShape). IsSomeAnd o (λ waiting.
          (waiting.request ≡ request) × (waiting.asked ≡ other))) (sym at.is_there) (
            request_is at.item.request request parts.0,
            same_id at.item.asked other (number_same at.item.asked.0 other.0 parts.1),
          ),
    )

-- ---- the laws

pub one_under_way : (world : WorldShape) (host one other : HostId) (state : host_state.HostState)
    (request : RequestId) (first second : FlightSpot) → IsAsked world.flying host state →
    IsUnderWay world host one request first → IsUnderWay world host other request second → first ≡ second
one_under_way world host one other state request first second asked under also =
    let most = asked.apart request in
    elim (eqb_tells one.0 other.0) [
      | inl same ↦
          let is : other ≡ one = sym (same_id one other same.1) in
          let few = asked.from_asked request one in
          let all = from_few request one state.waiting in
          same_spot world host one request first second (omega arith) under
          (subst (λ (h : HostId). IsUnderWay world host h request second) is also)
      | inr apart ↦
          let left = under_way_one world host one request first under in
          let right = under_way_one world host other request second also in
          let few = asked.from_asked request one in
          let less = asked.from_asked request other in
          let all = two_from request one other state.waiting apart.1 in
          absurd (omega arith)
    ]

pub under_way_awaited : (world : WorldShape) (host other : HostId) (state : host_state.HostState)
    (request : RequestId) (spot : FlightSpot) → IsAsked world.flying host state →
    IsUnderWay world host other request spot → WaitsFor state request other
under_way_awaited world host other state request spot asked under =
    let one = under_way_one world host other request spot under in
    let few = asked.from_asked request other in
    waits_for state request other (omega arith)

pub waits_once : (flying : Flying) (host : HostId) (state : host_state.HostState) (first second : ℕ)
    (one other : WaitingShape) → IsAsked flying host state → slice_get state.waiting first ≡ Some one →
    slice_get state.waiting second ≡ Some other → one.request ≡ other.request → first ≡ second
waits_once flying host state first second one other asked there also same = elim (eqb_tells first second) [
  | inl is ↦ is.1
  | inr apart ↦
      let f : WaitingShape → ℕ = λ w. one_if (is_request w.request other.request) in
      let all = two_in f state.waiting first second one other there also apart.1 in
      let two : f other ≡ 1 = ap one_if (itself_is other.request) in
      let its : f one ≡ f other = ap (λ (r : RequestId). one_if (is_request r other.request)) same in
      let most = asked.apart other.request in
      absurd (omega arith)
]

pub all_counted : (flying : Flying) (host : HostId) (state : host_state.HostState) → IsAsked flying host state →
    All (λ waiting. waiting.request.count < slice_index state.requests waiting.request.at) state.waiting
all_counted flying host state asked k d lt =
    let waiting : WaitingShape = get_or state.waiting k d in
    elim (cases_lt waiting.request.count (slice_index state.requests waiting.request.at)) [
      | inl less ↦ less
      | inr past ↦
          let none = asked.counted waiting.request past in
          let some =
          get_or-le-sum_by (λ (w : WaitingShape). one_if (is_request w.request waiting.request)) state.waiting k d lt in
          let its : one_if (is_request waiting.request waiting.request) ≡ 1 =
          ap one_if (itself_is waiting.request) in
          absurd (omega arith)
    ]

-- ---- both ends of a message

-- a host of the code obeys where it does not misbehave
obeys_if : (hosts : List (Option host_state.HostState)) (place : ℕ) → place < length hosts →
    (is_absent (slice_get hosts place) ≡ true → ⊥) → IsSome (given (slice_get hosts place))
obeys_if [] place within obeys = absurd (omega arith)
obeys_if (None ∷ hosts) zero within obeys = absurd (obeys refl)
obeys_if (Some state ∷ hosts) zero within obeys = refl
obeys_if (host ∷ hosts) (suc place) within obeys = obeys_if hosts place (omega arith) obeys

pub ends_obey : (code : CodeShape) (world : WorldShape) (from to : HostId) (place : ℕ) (flight : Flight) →
    ShapeFits code world → AreAsked world → slice_get (world.flying from to) place ≡ Some flight →
    IsSome (state_at world from) × IsSome (state_at world to)
ends_obey code world from to place flight fits asked there =
    let ends = flight_fits code world from to place flight fits.mail there in
    let some = one_in (λ (f : Flight). one_if (any f.message)) (world.flying from to) place flight there in (
      obeys_if world.hosts from.0 (subst (λ (n : ℕ). from.0 < n) (sym fits.count) ends.sender)
          (λ bad. let none = (asked.cut_off from bad to).0 in
          let never : ⊥ = omega arith in
          never),
      obeys_if world.hosts to.0 (subst (λ (n : ℕ). to.0 < n) (sym fits.count) ends.target.0)
          (λ bad. let none = (asked.cut_off to bad from).1 in
          let never : ⊥ = omega arith in
          never),
    )
