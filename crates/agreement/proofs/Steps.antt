-- What a step of one host makes of what goes on unseen in a world, and of what will be seen of it.
use Rattle.std.proofs.Common.{◌≡◌, ◌≢◌, ◌∙◌, ℕ, Bool, true, false, List, [], ◌∷◌, ◌++◌, Some, None, inl, inr, refl}
use Rattle.std.proofs.Common.{ap, sym, subst}
use Rattle.std.specs.Prelude.{◌==◌, ◌&&◌, if◌then◌else◌, not, filter, remove, slice_get, IsSome, ⊤}
use Rattle.js_base.specs.declared.ids.HostId.{HostId}
use Rattle.host_code.specs.Thread.{ThreadShape, WaitingShape}
use Rattle.host_core.specs.Host.{HostState}
use Rattle.net_world.specs.Flying.{Flight, Flying, with_flights}
use Rattle.net_world.specs.World.{WorldShape, state_at}
use Rattle.net_world.proofs.Moved.{Moved, mover_state, either}
use Rattle.net_world.proofs.Present.{same_id}
use Rattle.token_laws.proofs.Tests.{parts_same, number_same, different}
use Rattle.seen_world.specs.Eyes.{Eyes}
use Rattle.agreement.specs.Leads.{UnseenHolder, nobody, runs, waits, flies, runs_on, waits_on, flies_on, HiddenEntry}
use Rattle.agreement.specs.Leads.{links_on}
use Rattle.agreement.specs.Leads.{IsPresent, hidden_flights, Hides, HeldAt, Owes, IsOwedWell, KeepsUnseen, Leads}
use Rattle.agreement.specs.Views.{LowView, ShowsHost, Shows, Spot, OwedInView, Completed, flies_open, flights_view}
use Rattle.agreement.specs.Views.{is_shown}
use Rattle.agreement.proofs.Lists.{kept_last, only_taken}
use Rattle.agreement.proofs.ViewLaws.{flight_added, flight_taken}

-- ---- hosts

-- a thread that runs is on this host
abbrev pub IsOwn : HostId → UnseenHolder → Type 0
IsOwn me (runs host thread) = host ≡ me
IsOwn me other = ⊤

present_then : (world : WorldShape) (me : HostId) (new : HostState) (later : UnseenHolder) → state_at world me
    ≡ Some new →
    IsOwn me later → IsPresent world later
present_then world me new nobody there own = tt
present_then world me new (runs host thread) there own =
    subst (λ (h : HostId). IsSome (state_at world h)) (sym own)
    (subst (λ found. IsSome found) (sym there) refl)
present_then world me new (waits host waiting from to flight) there own = tt
present_then world me new (flies from to flight) there own = tt

-- What a host leaves: what goes on unseen then, and what is seen and owed.
pub record Leaves (eyes : Eyes) (me : HostId) (holder : UnseenHolder) (links : List HiddenEntry) (now shown : LowView)
    (new : HostState)
    (later : UnseenHolder) : Type 0 where
  pub own : IsOwn me later
  pub chain : List HiddenEntry
  pub hides : Hides eyes later chain me new
  pub runs_apart : (other : HostId) → other.0 ≢ me.0 → runs_on later other ≡ runs_on holder other
  pub waits_apart : (other : HostId) → other.0 ≢ me.0 → waits_on later other ≡ waits_on holder other
  pub links_apart : (other : HostId) → other.0 ≢ me.0 → links_on other chain ≡ links_on other links
  pub spot : Spot
  pub held : HeldAt eyes later spot
  pub owed : OwedInView
  pub owes : Owes eyes spot chain owed
  pub well : IsOwedWell eyes owed
  pub view : LowView
  pub shows : ShowsHost eyes me new (view.hosts me)
  pub others : (other : HostId) → other.0 ≢ me.0 → view.hosts other ≡ now.hosts other
  pub flying : view.flying ≡ now.flying
  pub sent : view.sent ≡ now.sent
  pub completed : Completed eyes owed view shown

-- what holds of the host of a step holds of it then, and what held of the others still does
each_host : (P Q : HostId → HostState → Type 0) (world after : WorldShape) (me : HostId) (old new : HostState) →
    state_at world me ≡ Some old → Moved world me new after.flying after →
    ((host : HostId) (state : HostState) → state_at world host ≡ Some state → P host state) → Q me new →
    ((host : HostId) (state : HostState) → host.0 ≢ me.0 → P host state → Q host state) →
    (host : HostId) (state : HostState) → state_at after host ≡ Some state → Q host state
each_host P Q world after me old new obeys moved before own others host state there =
    elim (either world after me old new after.flying obeys moved host state there) [
      | inl mover ↦
          subst (λ (h : HostId). Q h state) (sym mover.same) (subst (Q me) (sym mover.is) own)
      | inr apart ↦ others host state apart.apart (before host state apart.obeys)
    ]

pub moved_leads : (eyes : Eyes) (world after : WorldShape) (me : HostId) (old new : HostState) (owed : OwedInView)
    (keeps : KeepsUnseen eyes world owed) (now shown : LowView) (later : UnseenHolder) → Shows eyes world now →
    state_at world me ≡ Some old → Moved world me new after.flying after → after.sent ≡ world.sent →
    ((i j : HostId) → hidden_flights eyes (after.flying i j) ≡ flies_on later i j) →
    ((i j : HostId) → flights_view eyes i j (after.flying i j) ≡ flights_view eyes i j (world.flying i j)) →
    Leaves eyes me keeps.holder keeps.links now shown new later → Leads eyes after shown
moved_leads eyes world after me old new owed keeps now shown later shows obeys moved sent hidden same leaves = record {
  owed = leaves.owed;
  keeps = record {
    holder = later;
    links = leaves.chain;
    present = present_then after me new later (mover_state world after me old new after.flying obeys moved) leaves.own;
    hides = each_host (Hides eyes keeps.holder keeps.links) (Hides eyes later leaves.chain) world after me old new obeys
        moved keeps.hides leaves.hides (λ host state apart was. record {
          running = was.running ∙ sym (leaves.runs_apart host apart);
          waiting = was.waiting ∙ sym (leaves.waits_apart host apart);
          entries = was.entries
              ∙ ap (λ own. own ++ filter (is_shown eyes) state.entries) (sym (leaves.links_apart host apart));
        });
    flying = hidden;
    spot = leaves.spot;
    held = leaves.held;
    owes = leaves.owes;
    well = leaves.well;
  };
  now = leaves.view;
  shows = record {
    hosts = each_host (λ host state. ShowsHost eyes host state (now.hosts host))
        (λ host state. ShowsHost eyes host state (leaves.view.hosts host)) world after me old new obeys moved
        shows.hosts leaves.shows
        (λ host state apart was. subst (ShowsHost eyes host state) (sym (leaves.others host apart)) was);
    flying = λ i j. same i j ∙ shows.flying i j
        ∙ ap (λ (f : HostId → HostId → List Flight). f i j) (sym leaves.flying);
    sent = sent ∙ shows.sent ∙ sym leaves.sent;
  };
  completed = leaves.completed;
}

-- ---- messages in flight

-- one message alone may not be seen
abbrev pub FliesAlone : Eyes → Flying → HostId → HostId → Flight → Type 0
FliesAlone eyes flying from to flight = (i j : HostId) →
    hidden_flights eyes (flying i j) ≡ (if i.0 == from.0 && j.0 == to.0 then flight ∷ [] else [])

-- none may not be seen
abbrev pub FlyOpenly : Eyes → Flying → Type 0
FlyOpenly eyes flying = (i j : HostId) → hidden_flights eyes (flying i j) ≡ []

-- the same may be seen
abbrev pub FlyAlike : Eyes → Flying → Flying → Type 0
FlyAlike eyes flying other = (i j : HostId) →
    flights_view eyes i j (flying i j) ≡ flights_view eyes i j (other i j)

pub posted_alone : (eyes : Eyes) (flying : Flying) (from to : HostId) (flight : Flight) → FlyOpenly eyes flying →
    flies_open eyes flight ≡ false →
    FliesAlone eyes (with_flights flying from to (flying from to ++ flight ∷ [])) from to flight
posted_alone eyes flying from to flight none hidden i j = by (i.0 == from.0 && j.0 == to.0)
  where
    by : (b : Bool) → hidden_flights eyes (if b then flying from to ++ flight ∷ [] else flying i j)
        ≡ (if b then flight ∷ [] else [])
    by true = kept_last (λ one. not (flies_open eyes one)) (flying from to) flight (ap not hidden)
        ∙ ap (λ others. others ++ flight ∷ []) (none from to)
    by false = none i j

-- the queue of these hosts
same_queue : (flying : Flying) (from to i j : HostId) → (i.0 == from.0 && j.0 == to.0) ≡ true →
    flying from to ≡ flying i j
same_queue flying from to i j same =
    let both = parts_same (i.0 == from.0) (j.0 == to.0) same in
    let one : i ≡ from = same_id i from (number_same i.0 from.0 both.0) in
    let two : j ≡ to = same_id j to (number_same j.0 to.0 both.1) in
    ap (λ (h : HostId). flying h to) (sym one) ∙ ap (λ (h : HostId). flying i h) (sym two)

pub posted_alike : (eyes : Eyes) (flying : Flying) (from to : HostId) (flight : Flight) →
    flies_open eyes flight ≡ false →
    FlyAlike eyes (with_flights flying from to (flying from to ++ flight ∷ [])) flying
posted_alike eyes flying from to flight hidden i j = by (i.0 == from.0 && j.0 == to.0) refl
  where
    by : (b : Bool) → (i.0 == from.0 && j.0 == to.0) ≡ b →
        flights_view eyes i j (if b then flying from to ++ flight ∷ [] else flying i j)
        ≡ flights_view eyes i j (flying i j)
    by true same =
        flight_added eyes i j (flying from to) flight hidden
        ∙ ap (flights_view eyes i j) (same_queue flying from to i j same)
    by false same = refl

pub taken_openly : (eyes : Eyes) (flying : Flying) (from to : HostId) (place : ℕ) (flight : Flight) →
    FliesAlone eyes flying from to flight → slice_get (flying from to) place ≡ Some flight →
    flies_open eyes flight ≡ false → FlyOpenly eyes (with_flights flying from to (remove (flying from to) place))
taken_openly eyes flying from to place flight alone there hidden i j = by (i.0 == from.0 && j.0 == to.0) refl
  where
    by : (b : Bool) → (i.0 == from.0 && j.0 == to.0) ≡ b →
        hidden_flights eyes (if b then remove (flying from to) place else flying i j) ≡ []
    by true same =
        (only_taken (λ one. not (flies_open eyes one)) (flying from to) place flight flight there (ap not hidden)
        (ap (hidden_flights eyes) (same_queue flying from to i j same) ∙ alone i j
        ∙ ap (λ b. if b then flight ∷ [] else []) same)).1
    by false same = alone i j ∙ ap (λ b. if b then flight ∷ [] else []) same

pub taken_alike : (eyes : Eyes) (flying : Flying) (from to : HostId) (place : ℕ) (flight : Flight) →
    slice_get (flying from to) place ≡ Some flight → flies_open eyes flight ≡ false →
    FlyAlike eyes (with_flights flying from to (remove (flying from to) place)) flying
taken_alike eyes flying from to place flight there hidden i j = by (i.0 == from.0 && j.0 == to.0) refl
  where
    by : (b : Bool) → (i.0 == from.0 && j.0 == to.0) ≡ b →
        flights_view eyes i j (if b then remove (flying from to) place else flying i j)
        ≡ flights_view eyes i j (flying i j)
    by true same =
        flight_taken eyes i j (flying from to) place flight there hidden
        ∙ ap (flights_view eyes i j) (same_queue flying from to i j same)
    by false same = refl

-- ---- who it is that goes on unseen

pub runs_apart : (host other : HostId) (thread : ThreadShape) → other.0 ≢ host.0 →
    runs_on (runs host thread) other ≡ None
runs_apart host other thread apart =
    ap (λ (b : Bool). if b then Some thread else None) (different other.0 host.0 apart)

pub waits_apart : (host other from to : HostId) (waiting : WaitingShape) (flight : Flight) → other.0 ≢ host.0 →
    waits_on (waits host waiting from to flight) other ≡ []
waits_apart host other from to waiting flight apart =
    ap (λ (b : Bool). if b then waiting ∷ [] else []) (different other.0 host.0 apart)

-- a thread that runs on a host unseen
pub holder_runs : (holder : UnseenHolder) (me : HostId) (thread : ThreadShape) → runs_on holder me ≡ Some thread →
    holder ≡ runs me thread
holder_runs nobody me thread is = absurd (cc)
holder_runs (runs host other) me thread is = by (me.0 == host.0) refl is
  where
    by : (b : Bool) → (me.0 == host.0) ≡ b → (if b then Some other else None) ≡ Some thread →
        runs host other ≡ runs me thread
    by true same is =
        let one : me ≡ host = same_id me host (number_same me.0 host.0 same) in
        let two : other ≡ thread = cc in
        ap (λ (h : HostId). runs h other) (sym one) ∙ ap (runs me) two
    by false same is = absurd (cc)
holder_runs (waits host waiting from to flight) me thread is = absurd (cc)
holder_runs (flies from to flight) me thread is = absurd (cc)
