-- How a step of a host ends that goes on unseen: it goes on on the host, it waits, or it hands control over.
use Rattle.std.proofs.Common.{◌≡◌, ◌∙◌, ℕ, Bool, false, List, [], ◌∷◌, ◌++◌, Option, Some, None, inl, refl}
use Rattle.std.proofs.Common.{ap, sym, subst}
use Rattle.std.specs.Prelude.{◌==◌, ◌&&◌, if◌then◌else◌, not, filter}
use Rattle.std.proofs.lemmas.Bool.{false≢true}
use Rattle.js_base.specs.declared.ids.HostId.{HostId}
use Rattle.capability.specs.declared.token.Token.{Token}
use Rattle.host_code.specs.declared.message.Message.{Message}
use Rattle.host_code.specs.Sound.{IsSoundCode}
use Rattle.host_code.specs.Thread.{ThreadShape, Awaited, WaitingShape}
use Rattle.host_core.specs.Host.{HostState, Outcome, with_running, next_request, after_asking}
use Rattle.net_world.specs.Flying.{Flight}
use Rattle.token_laws.specs.Requests.{number_asked}
use Rattle.token_laws.proofs.Tests.{itself}
use Rattle.seen_world.specs.Eyes.{Eyes, AreEyes, is_open}
use Rattle.seen_world.specs.Points.{RunsWell, HostKeeps}
use Rattle.agreement.specs.Changes.{StaysSeen}
use Rattle.agreement.specs.Leads.{UnseenHolder, runs, waits, flies, runs_on, waits_on, flies_on, HiddenEntry, links_on}
use Rattle.agreement.specs.Leads.{hidden_running}
use Rattle.agreement.specs.Leads.{hidden_waiting, Hides, FliesTo, token_with, Owes, IsOwedWell}
use Rattle.agreement.specs.Views.{LowView, ShowsHost, Spot, at, OwedInView, Completed, running_view, waits_open}
use Rattle.agreement.specs.Views.{is_shown}
use Rattle.agreement.proofs.Lists.{left_last, kept_last, index_apart}
use Rattle.agreement.proofs.Steps.{Leaves, runs_apart, waits_apart}
use Rattle.agreement.proofs.ViewLaws.{still_shows, unseen_thread}

-- ---- what ends so

-- what is in flight unseen is what the step sends
abbrev pub Sends : HostId → ℕ → Option (HostId × Message) → UnseenHolder → Type 0
Sends me label None later = (i j : HostId) → flies_on later i j ≡ []
Sends me label (Some it) later = (i j : HostId) → flies_on later i j
    ≡ (if i.0 == me.0 && j.0 == it.0.0 then record { message = it.1; label = label } ∷ [] else [])

pub record Ends (eyes : Eyes) (me : HostId) (holder : UnseenHolder) (links : List HiddenEntry) (now shown : LowView)
    (label : ℕ)
    (outcome : Outcome) : Type 0 where
  pub later : UnseenHolder
  pub sends : Sends me label outcome.sent later
  pub leaves : Leaves eyes me holder links now shown outcome.state later

-- A thread runs unseen on a host, and nothing else goes on unseen.
pub record Unseen (eyes : Eyes) (old : HostState) (thread : ThreadShape) (links : List HiddenEntry) (token : Token)
    (owed : OwedInView) (now shown : LowView) : Type 0 where
  pub are : AreEyes eyes
  pub sound : IsSoundCode eyes.code
  pub obeys : eyes.bad old.me ≡ false
  pub keeps : HostKeeps eyes old.me old
  pub is_running : old.running ≡ Some thread
  pub well : RunsWell eyes old.me thread
  pub hidden : is_open eyes old.me thread.at ≡ false
  pub held : thread.held ≡ Some token
  pub hides : Hides eyes (runs old.me thread) links old.me old
  pub owes : Owes eyes (at old.me thread.at thread.frame token) links owed
  pub owed_well : IsOwedWell eyes owed
  pub shows : ShowsHost eyes old.me old (now.hosts old.me)
  pub completed : Completed eyes owed now shown

pub nothing_seen : (eyes : Eyes) (host : HostId) (running : Option ThreadShape) (thread : ThreadShape) →
    running ≡ Some thread → is_open eyes host thread.at ≡ false → running_view eyes host running ≡ []
nothing_seen eyes host running thread is hidden =
    ap (running_view eyes host) is ∙ unseen_thread eyes host thread hidden

-- what is seen of the host of such a thread, where it leaves what may be seen
pub shows_then : (eyes : Eyes) (old new : HostState) (thread : ThreadShape) (links : List HiddenEntry) (token : Token)
    (owed : OwedInView) (now shown : LowView) → Unseen eyes old thread links token owed now shown →
    StaysSeen eyes old.me old new → running_view eyes old.me new.running ≡ [] →
    filter (is_shown eyes) new.entries ≡ filter (is_shown eyes) old.entries →
    ShowsHost eyes old.me new (now.hosts old.me)
shows_then eyes old new thread links token owed now shown run stays none entries =
    still_shows eyes old.me old new (now.hosts old.me) run.shows stays
    (none ∙ sym (nothing_seen eyes old.me old.running thread run.is_running run.hidden)) entries

-- ---- the thread goes on on the host

pub own_running : (host : HostId) (thread : ThreadShape) → runs_on (runs host thread) host ≡ Some thread
own_running host thread = ap (λ (b : Bool). if b then Some thread else None) (itself host.0)

pub own_waiting : (host from to : HostId) (waiting : WaitingShape) (flight : Flight) →
    waits_on (waits host waiting from to flight) host ≡ waiting ∷ []
own_waiting host from to waiting flight = ap (λ (b : Bool). if b then waiting ∷ [] else []) (itself host.0)

pub unseen_runs : (eyes : Eyes) (host : HostId) (running : Option ThreadShape) (thread : ThreadShape) →
    running ≡ Some thread → is_open eyes host thread.at ≡ false →
    hidden_running eyes host running ≡ runs_on (runs host thread) host
unseen_runs eyes host running thread is hidden =
    ap (hidden_running eyes host) is ∙ ap (λ (b : Bool). if b then None else Some thread) hidden
    ∙ sym (own_running host thread)

pub goes_on_unseen : (eyes : Eyes) (old new : HostState) (thread later : ThreadShape) (links : List HiddenEntry)
    (token : Token) (owed : OwedInView) (now shown : LowView) (label : ℕ) →
    Unseen eyes old thread links token owed now shown → new.running ≡ Some later → new.entries ≡ old.entries →
    hidden_waiting eyes old.me new.waiting ≡ [] → StaysSeen eyes old.me old new → later.held ≡ Some token →
    is_open eyes old.me later.at ≡ false → Owes eyes (at old.me later.at later.frame token) links owed →
    Ends eyes old.me (runs old.me thread) links now shown label (record { state = new; sent = None })
goes_on_unseen eyes old new thread later links token owed now shown label run is entries none stays held hidden owes =
    record {
      later = runs old.me later;
      sends = λ i j. refl;
      leaves = record {
        own = refl;
        chain = links;
        hides = record {
          running = unseen_runs eyes old.me new.running later is hidden;
          waiting = none;
          entries = entries ∙ run.hides.entries
              ∙ ap (λ all. links_on old.me links ++ filter (is_shown eyes) all) (sym entries);
        };
        runs_apart = λ other apart. runs_apart old.me other later apart ∙ sym (runs_apart old.me other thread apart);
        waits_apart = λ other apart. refl;
        links_apart = λ other apart. refl;
        spot = at old.me later.at later.frame token;
        held = (token, held, refl);
        owed = owed;
        owes = owes;
        well = run.owed_well;
        view = now;
        shows = shows_then eyes old new thread links token owed now shown run stays
            (nothing_seen eyes old.me new.running later is hidden) (ap (filter (is_shown eyes)) entries);
        others = λ other apart. refl;
        flying = refl;
        sent = refl;
        completed = run.completed;
      };
    }

-- ---- it waits

pub waits_unseen : (eyes : Eyes) (old : HostState) (thread later : ThreadShape) (links : List HiddenEntry)
    (token : Token)
    (owed : OwedInView) (now shown : LowView) (label : ℕ) (awaited : Awaited) (asked : HostId) (said : Message) →
    Unseen eyes old thread links token owed now shown → later.frame ≡ thread.frame →
    number_asked said ≡ Some (next_request (with_running old None) thread.at) →
    token_with said later.held ≡ Some token →
    Ends eyes old.me (runs old.me thread) links now shown label (record {
      state = after_asking (with_running old None) thread.at later awaited asked;
      sent = Some (asked, said);
    })
waits_unseen eyes old thread later links token owed now shown label awaited asked said run frame number carries =
    let bare = with_running old None in
    let one : WaitingShape = record {
      thread = later;
      awaited = awaited;
      request = next_request bare thread.at;
      asked = asked;
    } in
    let flight : Flight = record { message = said; label = label } in
    let new = after_asking bare thread.at later awaited asked in
    record {
      later = waits old.me one old.me asked flight;
      sends = λ i j. refl;
      leaves = record {
        own = tt;
        chain = links;
        hides = record {
          running = refl;
          waiting = kept_last (λ it. not (waits_open eyes old.me it)) old.waiting one (ap not run.hidden)
              ∙ ap (λ others. others ++ one ∷ []) run.hides.waiting
              ∙ sym (own_waiting old.me old.me asked one flight);
          entries = run.hides.entries;
        };
        runs_apart = λ other apart. sym (runs_apart old.me other thread apart);
        waits_apart = λ other apart. waits_apart old.me other old.me asked one flight apart;
        links_apart = λ other apart. refl;
        spot = at old.me thread.at later.frame token;
        held = (token, carries, refl, inl (number, refl, refl));
        owed = owed;
        owes = subst (λ f. Owes eyes (at old.me thread.at f token) links owed) (sym frame) run.owes;
        well = run.owed_well;
        view = now;
        shows = shows_then eyes old new thread links token owed now shown run (record {
          key = refl;
          rows = λ field seen. refl;
          variables = λ frame x seen. refl;
          waiting = left_last (waits_open eyes old.me) old.waiting one run.hidden;
          serials = λ number shown. refl;
          frames = λ site label is seen. refl;
          requests = λ place seen. index_apart old.requests thread.at place _
              (λ same. false≢true (sym run.hidden ∙ ap (is_open eyes old.me) (sym same) ∙ seen));
        }) refl refl;
        others = λ other apart. refl;
        flying = refl;
        sent = refl;
        completed = run.completed;
      };
    }

-- ---- it hands control over

pub hands_unseen : (eyes : Eyes) (old : HostState) (thread : ThreadShape) (links : List HiddenEntry) (token : Token)
    (owed : OwedInView) (now shown : LowView) (label : ℕ) (to : HostId) (said : Message) (spot : Spot) →
    Unseen eyes old thread links token owed now shown → FliesTo eyes to said spot → Owes eyes spot links owed →
    Ends eyes old.me (runs old.me thread) links now shown label
    (record { state = with_running old None; sent = Some (to, said) })
hands_unseen eyes old thread links token owed now shown label to said spot run goes owes =
    let flight : Flight = record { message = said; label = label } in
    record {
      later = flies old.me to flight;
      sends = λ i j. refl;
      leaves = record {
        own = tt;
        chain = links;
        hides = record { running = refl; waiting = run.hides.waiting; entries = run.hides.entries };
        runs_apart = λ other apart. sym (runs_apart old.me other thread apart);
        waits_apart = λ other apart. refl;
        links_apart = λ other apart. refl;
        spot = spot;
        held = goes;
        owed = owed;
        owes = owes;
        well = run.owed_well;
        view = now;
        shows = shows_then eyes old (with_running old None) thread links token owed now shown run (record {
          key = refl;
          rows = λ field seen. refl;
          variables = λ frame x seen. refl;
          waiting = refl;
          serials = λ number shown. refl;
          frames = λ site label is seen. refl;
          requests = λ place seen. refl;
        }) refl refl;
        others = λ other apart. refl;
        flying = refl;
        sent = refl;
        completed = run.completed;
      };
    }
