-- A token that is held at two places is held twice, and one that is held is held at some place.
use Rattle.std.proofs.Common.{◌≡◌, ◌≢◌, ◌∙◌, ◌⊎◌, ℕ, zero, suc, ◌+◌, ◌<◌, ◌≤◌, inl, inr, List, length}
use Rattle.std.proofs.Common.{Option, Some, None, refl, ap, sym, subst, arith}
use Rattle.std.specs.Prelude.{slice_get, sum_by, IsSomeAnd}
use Rattle.std.proofs.lemmas.Bool.{cases_lt}
use Rattle.std.proofs.lemmas.Bool.Decides.{eqb_tells}
use Rattle.js_base.specs.declared.ids.HostId.{HostId}
use Rattle.js_base.proofs.Options.{some_same}
use Rattle.capability.specs.declared.token.Token.{Token}
use Rattle.ics_stack.specs.declared.stack.StackEntry.{StackEntry}
use Rattle.host_code.specs.Code.{CodeShape}
use Rattle.host_code.specs.Thread.{ThreadShape, WaitingShape}
use Rattle.host_core.specs.Host.{HostState}
use Rattle.net_world.specs.Fits.{ShapeFits}
use Rattle.net_world.specs.Flying.{Flight}
use Rattle.net_world.specs.Told.{token_in}
use Rattle.net_world.specs.World.{WorldShape, given, state_at}
use Rattle.net_world.proofs.Fitting.{flight_fits}
use Rattle.net_world.proofs.Present.{same_id}
use Rattle.net_world.proofs.StepsOf.{has_some}
use Rattle.token_laws.specs.Holders.{TokenPlace, running_on, waiting_on, kept_on, in_flight, HoldsAt, IsTokenHeld}
use Rattle.token_laws.proofs.Counting.{sum_below, host_of, one_if}
use Rattle.token_laws.proofs.OneToken.{only_one, token_itself}
use Rattle.token_laws.proofs.Sums.{one_in, two_in, SomeIn, some_in}
use Rattle.token_laws.proofs.WorldTokens.{there}
use Rattle.token_laws.proofs.Worth.{worth_held, worth_running, worth_state, worth_host, worth_between, worth_flying}
use Rattle.token_laws.proofs.Worth.{worth_world, one_of}

-- ---- sums of which two terms are known

one_below : (count i : ℕ) (f : ℕ → ℕ) → i < count → f i ≤ sum_below count f
one_below zero i f within = absurd (omega arith)
one_below (suc count) i f within = elim (eqb_tells i count) [
  | inl last ↦ (let same = ap f last.1 in omega arith)
  | inr apart ↦
      let ne : i ≢ count = apart.1 in
      let rest = one_below count i f (omega arith) in
      omega arith
]

two_below : (count i j : ℕ) (f : ℕ → ℕ) → i < count → j < count → i ≢ j → f i + f j ≤ sum_below count f
two_below zero i j f within also apart = absurd (omega arith)
two_below (suc count) i j f within also apart = elim (eqb_tells i count) [
  | inl last ↦
      let same = ap f last.1 in
      let is : i ≡ count = last.1 in
      let rest = one_below count j f (omega arith) in
      omega arith
  | inr before ↦ elim (eqb_tells j count) [
    | inl last ↦
        let same = ap f last.1 in
        let is : j ≡ count = last.1 in
        let rest = one_below count i f (omega arith) in
        omega arith
    | inr later ↦
        let first : i ≢ count = before.1 in
        let second : j ≢ count = later.1 in
        let rest = two_below count i j f (omega arith) (omega arith) apart in
        omega arith
  ]
]

-- ---- a sum that is not zero has such a term

some_below : (count : ℕ) (f : ℕ → ℕ) → 0 < sum_below count f → (i : ℕ) × (0 < f i)
some_below zero f more = absurd (omega arith)
some_below (suc count) f more = elim (cases_lt 0 (f count)) [
  | inl here ↦ (count, here)
  | inr none ↦ some_below count f (omega arith)
]

-- ---- one token

its_worth : (token other : Token) → other ≡ token → one_of token other ≡ 1
its_worth token other same = ap (one_of token) same ∙ ap one_if (token_itself token)

held_worth : (token : Token) (held : Option Token) → held ≡ Some token → worth_held (one_of token) held ≡ 1
held_worth token held is = ap (worth_held (one_of token)) is ∙ its_worth token token refl

is_held : (token : Token) (held : Option Token) → 0 < worth_held (one_of token) held → held ≡ Some token
is_held token None more = absurd (omega arith)
is_held token (Some other) more = ap Some ((only_one token other).1 more)

-- ---- places of one host

data Local : Type 0 where
  running : Local
  waiting : ℕ → Local
  kept : ℕ → Local

abbrev HoldsIn : HostState → Token → Local → Type 0
HoldsIn state token running = IsSomeAnd state.running (λ thread. thread.held ≡ Some token)
HoldsIn state token (waiting place) =
    IsSomeAnd (slice_get state.waiting place) (λ one. one.thread.held ≡ Some token)
HoldsIn state token (kept place) = IsSomeAnd (slice_get state.entries place) (λ on_stack. on_stack.kept ≡ token)

abbrev on : HostId → Local → TokenPlace
on host running = running_on host
on host (waiting place) = waiting_on host place
on host (kept place) = kept_on host place

abbrev wait_worth : Token → WaitingShape → ℕ
wait_worth token one = worth_held (one_of token) one.thread.held

abbrev kept_worth : Token → StackEntry → ℕ
kept_worth token on_stack = one_of token on_stack.kept

runs_one : (token : Token) (thread : Option ThreadShape) → IsSomeAnd thread (λ t. t.held ≡ Some token) →
    worth_running (one_of token) thread ≡ 1
runs_one token None holds = absurd holds
runs_one token (Some thread) holds = held_worth token thread.held holds

-- the one that waits at a place, or the entry there
record Known {X : Type 0} (xs : List X) (place : ℕ) (f : X → ℕ) : Type 0 where
  item : X
  is_there : slice_get xs place ≡ Some item
  one : f item ≡ 1

waits_one : (state : HostState) (token : Token) (place : ℕ) → HoldsIn state token (waiting place) →
    Known state.waiting place (wait_worth token)
waits_one state token place holds =
    let at = has_some (slice_get state.waiting place) (λ one. one.thread.held ≡ Some token) holds in
    record { item = at.0; is_there = at.1; one = held_worth token at.0.thread.held at.2 }

keeps_one : (state : HostState) (token : Token) (place : ℕ) → HoldsIn state token (kept place) →
    Known state.entries place (kept_worth token)
keeps_one state token place holds =
    let at = has_some (slice_get state.entries place) (λ on_stack. on_stack.kept ≡ token) holds in
    record { item = at.0; is_there = at.1; one = its_worth token at.0.kept at.2 }

state_one : (state : HostState) (token : Token) (place : Local) → HoldsIn state token place →
    1 ≤ worth_state (one_of token) state
state_one state token running holds = let one = runs_one token state.running holds in omega arith
state_one state token (waiting place) holds =
    let at = waits_one state token place holds in
    let all = one_in (wait_worth token) state.waiting place at.item at.is_there in
    let one = at.one in
    omega arith
state_one state token (kept place) holds =
    let at = keeps_one state token place holds in
    let all = one_in (kept_worth token) state.entries place at.item at.is_there in
    let one = at.one in
    omega arith

-- two places are the same, or the token is held twice
state_two : (state : HostState) (token : Token) (first second : Local) → HoldsIn state token first →
    HoldsIn state token second → (first ≡ second) ⊎ (2 ≤ worth_state (one_of token) state)
state_two state token running running holds also = inl refl
state_two state token running (waiting j) holds also =
    let one = runs_one token state.running holds in
    let at = waits_one state token j also in
    let all = one_in (wait_worth token) state.waiting j at.item at.is_there in
    let other = at.one in
    inr (omega arith)
state_two state token running (kept j) holds also =
    let one = runs_one token state.running holds in
    let at = keeps_one state token j also in
    let all = one_in (kept_worth token) state.entries j at.item at.is_there in
    let other = at.one in
    inr (omega arith)
state_two state token (waiting i) running holds also =
    let one = runs_one token state.running also in
    let at = waits_one state token i holds in
    let all = one_in (wait_worth token) state.waiting i at.item at.is_there in
    let other = at.one in
    inr (omega arith)
state_two state token (waiting i) (waiting j) holds also = elim (eqb_tells i j) [
  | inl same ↦ inl (ap waiting same.1)
  | inr apart ↦
      let at = waits_one state token i holds in
      let to = waits_one state token j also in
      let all =
      two_in (wait_worth token) state.waiting i j at.item to.item at.is_there to.is_there apart.1 in
      let one = at.one in
      let other = to.one in
      inr (omega arith)
]
state_two state token (waiting i) (kept j) holds also =
    let at = waits_one state token i holds in
    let to = keeps_one state token j also in
    let first = one_in (wait_worth token) state.waiting i at.item at.is_there in
    let second = one_in (kept_worth token) state.entries j to.item to.is_there in
    let one = at.one in
    let other = to.one in
    inr (omega arith)
state_two state token (kept i) running holds also =
    let one = runs_one token state.running also in
    let at = keeps_one state token i holds in
    let all = one_in (kept_worth token) state.entries i at.item at.is_there in
    let other = at.one in
    inr (omega arith)
state_two state token (kept i) (waiting j) holds also =
    let at = keeps_one state token i holds in
    let to = waits_one state token j also in
    let first = one_in (kept_worth token) state.entries i at.item at.is_there in
    let second = one_in (wait_worth token) state.waiting j to.item to.is_there in
    let one = at.one in
    let other = to.one in
    inr (omega arith)
state_two state token (kept i) (kept j) holds also = elim (eqb_tells i j) [
  | inl same ↦ inl (ap kept same.1)
  | inr apart ↦
      let at = keeps_one state token i holds in
      let to = keeps_one state token j also in
      let all =
      two_in (kept_worth token) state.entries i j at.item to.item at.is_there to.is_there apart.1 in
      let one = at.one in
      let other = to.one in
      inr (omega arith)
]

-- what is held is held somewhere
running_some : (token : Token) (thread : Option ThreadShape) → 0 < worth_running (one_of token) thread →
    IsSomeAnd thread (λ t. t.held ≡ Some token)
running_some token None more = absurd (omega arith)
running_some token (Some thread) more = is_held token thread.held more

waits_at : (state : HostState) (token : Token) (at : SomeIn (wait_worth token) state.waiting) →
    HoldsIn state token (waiting at.place)
waits_at state token at =
    subst (λ (o : Option WaitingShape). IsSomeAnd o (λ one. one.thread.held ≡ Some token)) (sym at.is_there)
    (is_held token at.item.thread.held at.more)

kept_at : (state : HostState) (token : Token) (at : SomeIn (kept_worth token) state.entries) →
    HoldsIn state token (kept at.place)
kept_at state token at =
    subst (λ (o : Option StackEntry). IsSomeAnd o (λ on_stack. on_stack.kept ≡ token)) (sym at.is_there)
    ((only_one token at.item.kept).1 at.more)

state_some : (state : HostState) (token : Token) → 0 < worth_state (one_of token) state →
    (place : Local) × HoldsIn state token place
state_some state token more = elim (cases_lt 0 (worth_running (one_of token) state.running)) [
  | inl runs ↦ (running, running_some token state.running runs)
  | inr idle ↦ elim (cases_lt 0 (sum_by (wait_worth token) state.waiting)) [
    | inl waits ↦
        let at = some_in (wait_worth token) state.waiting waits in (
          waiting at.place,
          waits_at state token at,
        )
    | inr none ↦
        let at = some_in (kept_worth token) state.entries (omega arith) in (
          kept at.place,
          kept_at state token at,
        )
  ]
]

-- ---- places of all hosts

-- a host that holds the token at a place
record Holder (world : WorldShape) (token : Token) (host : HostId) (place : Local) : Type 0 where
  state : HostState
  obeys : state_at world host ≡ Some state
  holds : HoldsIn state token place

holder : (world : WorldShape) (token : Token) (host : HostId) (place : Local) → HoldsAt world token (on host place) →
    Holder world token host place
holder world token host running holds =
    let at = has_some (state_at world host) (λ state. HoldsIn state token running) holds in
    record { state = at.0; obeys = at.1; holds = at.2 }
holder world token host (waiting place) holds =
    let at = has_some (state_at world host) (λ state. HoldsIn state token (waiting place)) holds in
    record { state = at.0; obeys = at.1; holds = at.2 }
holder world token host (kept place) holds =
    let at = has_some (state_at world host) (λ state. HoldsIn state token (kept place)) holds in
    record { state = at.0; obeys = at.1; holds = at.2 }

held_on : (world : WorldShape) (token : Token) (host : HostId) (place : Local) → Holder world token host place →
    HoldsAt world token (on host place)
held_on world token host running one =
    subst (λ (o : Option HostState). IsSomeAnd o (λ state. HoldsIn state token running)) (sym one.obeys) one.holds
held_on world token host (waiting place) one =
    subst (λ (o : Option HostState). IsSomeAnd o (λ state. HoldsIn state token (waiting place))) (sym one.obeys)
    one.holds
held_on world token host (kept place) one =
    subst (λ (o : Option HostState). IsSomeAnd o (λ state. HoldsIn state token (kept place))) (sym one.obeys) one.holds

host_one : (world : WorldShape) (token : Token) (host : HostId) (place : Local) →
    HoldsAt world token (on host place) → 1 ≤ sum_by (worth_host (one_of token)) world.hosts
host_one world token host place holds =
    let at = holder world token host place holds in
    let all =
    one_in (worth_host (one_of token)) world.hosts host.0 (Some at.state)
    (there world.hosts host.0 at.state at.obeys) in
    let one = state_one at.state token place at.holds in
    omega arith

hosts_two : (world : WorldShape) (token : Token) (host other : HostId) (first second : Local) →
    HoldsAt world token (on host first) → HoldsAt world token (on other second) →
    (on host first ≡ on other second) ⊎ (2 ≤ sum_by (worth_host (one_of token)) world.hosts)
hosts_two world token host other first second holds also =
    let at = holder world token host first holds in
    let to = holder world token other second also in
    let is = there world.hosts host.0 at.state at.obeys in
    elim (eqb_tells host.0 other.0) [
      | inl same ↦
          let one : host ≡ other = same_id host other same.1 in
          let equal : to.state ≡ at.state =
          some_same (state_at world other) to.state at.state to.obeys (ap (state_at world) (sym one) ∙ at.obeys) in
          elim (state_two at.state token first second at.holds
          (subst (λ (s : HostState). HoldsIn s token second) equal to.holds)) [
            | inl place ↦ inl (ap (λ (h : HostId). on h first) one ∙ ap (on other) place)
            | inr twice ↦
                let all = one_in (worth_host (one_of token)) world.hosts host.0 (Some at.state) is in
                inr (omega arith)
          ]
      | inr apart ↦
          let all =
          two_in (worth_host (one_of token)) world.hosts host.0 other.0 (Some at.state) (Some to.state) is
          (there world.hosts other.0 to.state to.obeys) apart.1 in
          let one = state_one at.state token first at.holds in
          let two = state_one to.state token second to.holds in
          inr (omega arith)
    ]

-- ---- messages in flight

abbrev flight_worth : Token → Flight → ℕ
flight_worth token flight = worth_held (one_of token) (token_in flight.message)

-- a message with the token between two hosts of the code
record Flies (world : WorldShape) (token : Token) (from to : HostId) (place : ℕ) : Type 0 where
  known : Known (world.flying from to) place (flight_worth token)
  sender : from.0 < length world.hosts
  target : to.0 < length world.hosts

flies : (code : CodeShape) (world : WorldShape) (token : Token) (from to : HostId) (place : ℕ) →
    ShapeFits code world → HoldsAt world token (in_flight from to place) → Flies world token from to place
flies code world token from to place fits holds =
    let at =
    has_some (slice_get (world.flying from to) place) (λ flight. token_in flight.message ≡ Some token) holds in
    let flight = flight_fits code world from to place at.0 fits.mail at.1 in
    record {
      known = record { item = at.0; is_there = at.1; one = held_worth token (token_in at.0.message) at.2 };
      sender = subst (λ (n : ℕ). from.0 < n) (sym fits.count) flight.sender;
      target = subst (λ (n : ℕ). to.0 < n) (sym fits.count) flight.target.0;
    }

cell_one : (world : WorldShape) (token : Token) (from to : HostId) (place : ℕ) → Flies world token from to place →
    1 ≤ worth_between (one_of token) world.flying from.0 to.0
cell_one world token from to place at =
    let all = one_in (flight_worth token) (world.flying from to) place at.known.item at.known.is_there in
    let one = at.known.one in
    omega arith

row_one : (world : WorldShape) (token : Token) (from to : HostId) (place : ℕ) → Flies world token from to place →
    1 ≤ sum_below (length world.hosts) (worth_between (one_of token) world.flying from.0)
row_one world token from to place at =
    let cell = cell_one world token from to place at in
    let row =
    one_below (length world.hosts) to.0 (worth_between (one_of token) world.flying from.0) at.target in
    omega arith

flight_one : (world : WorldShape) (token : Token) (from to : HostId) (place : ℕ) → Flies world token from to place →
    1 ≤ worth_flying (one_of token) (length world.hosts) world.flying
flight_one world token from to place at =
    let row = row_one world token from to place at in
    let all =
    one_below (length world.hosts) from.0
    (λ i. sum_below (length world.hosts) (worth_between (one_of token) world.flying i)) at.sender in
    omega arith

-- in a row, either the cells are the same or there are two
cells_two : (world : WorldShape) (token : Token) (from to other : HostId) (first second : ℕ) →
    Flies world token from to first → Flies world token from other second →
    (in_flight from to first ≡ in_flight from other second)
    ⊎ (2 ≤ sum_below (length world.hosts) (worth_between (one_of token) world.flying from.0))
cells_two world token from to other first second at also = elim (eqb_tells to.0 other.0) [
  | inl same ↦
      let one : to ≡ other = same_id to other same.1 in
      elim (eqb_tells first second) [
        | inl place ↦ inl (ap (λ (h : HostId). in_flight from h first) one ∙ ap (in_flight from other) place.1)
        | inr apart ↦
            let is : slice_get (world.flying from other) first ≡ Some at.known.item =
            ap (λ (h : HostId). slice_get (world.flying from h) first) (sym one) ∙ at.known.is_there in
            let cell =
            two_in (flight_worth token) (world.flying from other) first second at.known.item also.known.item is
            also.known.is_there apart.1 in
            let row =
            one_below (length world.hosts) other.0 (worth_between (one_of token) world.flying from.0) also.target in
            let first_one = at.known.one in
            let second_one = also.known.one in
            inr (omega arith)
      ]
  | inr apart ↦
      let row =
      two_below (length world.hosts) to.0 other.0 (worth_between (one_of token) world.flying from.0) at.target
      also.target apart.1 in
      let first_one = cell_one world token from to first at in
      let second_one = cell_one world token from other second also in
      inr (omega arith)
]

flights_two : (world : WorldShape) (token : Token) (from to sender other : HostId) (first second : ℕ) →
    Flies world token from to first → Flies world token sender other second →
    (in_flight from to first ≡ in_flight sender other second)
    ⊎ (2 ≤ worth_flying (one_of token) (length world.hosts) world.flying)
flights_two world token from to sender other first second at also =
    let row : ℕ → ℕ = λ i. sum_below (length world.hosts) (worth_between (one_of token) world.flying i) in
    elim (eqb_tells from.0 sender.0) [
      | inl same ↦
          let one : from ≡ sender = same_id from sender same.1 in
          elim (cells_two world token sender to other first second
          (subst (λ (h : HostId). Flies world token h to first) one at) also) [
            | inl place ↦ inl (ap (λ (h : HostId). in_flight h to first) one ∙ place)
            | inr twice ↦
                let all = one_below (length world.hosts) sender.0 row also.sender in
                inr (omega arith)
          ]
      | inr apart ↦
          let all = two_below (length world.hosts) from.0 sender.0 row at.sender also.sender apart.1 in
          let first_one = row_one world token from to first at in
          let second_one = row_one world token sender other second also in
          inr (omega arith)
    ]

-- ---- all places

data Kind (place : TokenPlace) : Type 0 where
  local : (host : HostId) (at : Local) → place ≡ on host at → Kind place
  flight : (from to : HostId) (at : ℕ) → place ≡ in_flight from to at → Kind place

kind_of : (place : TokenPlace) → Kind place
kind_of (running_on host) = local host running refl
kind_of (waiting_on host at) = local host (waiting at) refl
kind_of (kept_on host at) = local host (kept at) refl
kind_of (in_flight from to at) = flight from to at refl

twice : (code : CodeShape) (world : WorldShape) (token : Token) (first second : TokenPlace) → ShapeFits code world →
    HoldsAt world token first → HoldsAt world token second → Kind first → Kind second →
    (first ≡ second) ⊎ (2 ≤ worth_world (one_of token) world)
twice code world token first second fits holds also (local host at is) (local other to same) =
    elim (hosts_two world token host other at to (subst (HoldsAt world token) is holds)
    (subst (HoldsAt world token) same also)) [
      | inl place ↦ inl (is ∙ place ∙ sym same)
      | inr two ↦ inr (omega arith)
    ]
twice code world token first second fits holds also (local host at is) (flight from to place same) =
    let one = host_one world token host at (subst (HoldsAt world token) is holds) in
    let two =
    flight_one world token from to place
    (flies code world token from to place fits (subst (HoldsAt world token) same also)) in
    inr (omega arith)
twice code world token first second fits holds also (flight from to place is) (local host at same) =
    let one = host_one world token host at (subst (HoldsAt world token) same also) in
    let two =
    flight_one world token from to place
    (flies code world token from to place fits (subst (HoldsAt world token) is holds)) in
    inr (omega arith)
twice code world token first second fits holds also (flight from to place is) (flight sender other at same) =
    elim (flights_two world token from to sender other place at
    (flies code world token from to place fits (subst (HoldsAt world token) is holds))
    (flies code world token sender other at fits (subst (HoldsAt world token) same also))) [
      | inl one ↦ inl (is ∙ one ∙ sym same)
      | inr two ↦ inr (omega arith)
    ]

-- what is held at most once is held at one place
pub one_place : (code : CodeShape) (world : WorldShape) (token : Token) (first second : TokenPlace) →
    ShapeFits code world → worth_world (one_of token) world ≤ 1 → HoldsAt world token first →
    HoldsAt world token second → first ≡ second
one_place code world token first second fits most holds also =
    elim (twice code world token first second fits holds also (kind_of first) (kind_of second)) [
      | inl same ↦ same
      | inr two ↦ absurd (omega arith)
    ]

pub held_once_or_more : (code : CodeShape) (world : WorldShape) (token : Token) → ShapeFits code world →
    IsTokenHeld world token → 0 < worth_world (one_of token) world
held_once_or_more code world token fits held = elim (kind_of held.0) [
  | local host at is ↦ (
      let one = host_one world token host at (subst (HoldsAt world token) is held.1) in omega arith)
  | flight from to at is ↦ (
      let one =
      flight_one world token from to at
      (flies code world token from to at fits (subst (HoldsAt world token) is held.1)) in
      omega arith)
]

-- ---- some place

given_some : (o : Option HostState) (token : Token) → 0 < worth_host (one_of token) o →
    (state : HostState) × (o ≡ Some state) × (0 < worth_state (one_of token) state)
given_some None token more = absurd (omega arith)
given_some (Some state) token more = (state, refl, more)

flying_at : (world : WorldShape) (token : Token) (from to : HostId)
    (at : SomeIn (flight_worth token) (world.flying from to)) → HoldsAt world token (in_flight from to at.place)
flying_at world token from to at =
    subst (λ (o : Option Flight). IsSomeAnd o (λ f. token_in f.message ≡ Some token)) (sym at.is_there)
    (is_held token (token_in at.item.message) at.more)

pub some_place : (world : WorldShape) (token : Token) → 0 < worth_world (one_of token) world → IsTokenHeld world token
some_place world token more = elim (cases_lt 0 (sum_by (worth_host (one_of token)) world.hosts)) [
  | inl hosts ↦
      let at = some_in (worth_host (one_of token)) world.hosts hosts in
      let found = given_some at.item token at.more in
      let place = state_some found.0 token found.2 in (
        on (host_of at.place) place.0,
        held_on world token (host_of at.place) place.0 (record {
          state = found.0;
          obeys = ap given at.is_there ∙ found.1;
          holds = place.1;
        }),
      )
  | inr none ↦
      let row =
      some_below (length world.hosts)
      (λ i. sum_below (length world.hosts) (worth_between (one_of token) world.flying i)) (omega arith) in
      let cell =
      some_below (length world.hosts) (worth_between (one_of token) world.flying row.0) row.1 in
      let at = some_in (flight_worth token) (world.flying (host_of row.0) (host_of cell.0)) cell.1 in (
        in_flight (host_of row.0) (host_of cell.0) at.place,
        flying_at world token (host_of row.0) (host_of cell.0) at,
      )
]
