-- What is seen has one outcome, and what goes on unseen leaves it as it is.
use Rattle.std.proofs.Common.{◌≡◌, ◌∙◌, ℕ, true, false, List, [], ◌∷◌, ◌++◌, Some, inl, inr, refl, ap, sym, map}
use Rattle.std.specs.Prelude.{filter, remove, slice_get, if◌then◌else◌, not}
use Rattle.js_base.specs.declared.ids.HostId.{HostId}
use Rattle.js_base.specs.declared.ids.FrameId.{FrameId}
use Rattle.capability.specs.declared.token.Token.{Token}
use Rattle.ics_stack.specs.declared.stack.StackEntry.{StackEntry}
use Rattle.host_code.specs.Thread.{ThreadShape}
use Rattle.host_core.specs.Host.{HostState}
use Rattle.net_world.specs.Flying.{Flight}
use Rattle.token_laws.proofs.Tests.{itself}
use Rattle.seen_world.specs.Eyes.{Eyes, is_open, is_deep, is_hidden}
use Rattle.agreement.specs.Changes.{StaysSeen}
use Rattle.agreement.specs.Leads.{HiddenEntry, links_on}
use Rattle.agreement.specs.Views.{LowView, HostView, ShowsHost, running_view, GivenBack, OwedInView, nothing, goes_on}
use Rattle.agreement.specs.Views.{gives, Completed, at, owed_at, flies_open, flight_view, flights_view, is_shown}
use Rattle.agreement.specs.Views.{waiter_view}
use Rattle.agreement.proofs.Lists.{left_last, left_removed, left_first}

-- ---- what is owed

pub given_once : (eyes : Eyes) (view : LowView) (token : Token) (entries : List StackEntry) (first second : LowView) →
    GivenBack eyes view token entries first → GivenBack eyes view token entries second → first ≡ second
given_once eyes view token [] first second one two = one ∙ sym two
given_once eyes view token (top ∷ below) first second (inl one) (inl two) = one.1 ∙ sym two.1
given_once eyes view token (top ∷ below) first second (inl one) (inr two) = absurd (two.0 one.0)
given_once eyes view token (top ∷ below) first second (inr one) (inl two) = absurd (one.0 two.0)
given_once eyes view token (top ∷ below) first second (inr one) (inr two) = one.1 ∙ sym two.1

pub completed_once : (eyes : Eyes) (owed : OwedInView) (view first second : LowView) → Completed eyes owed view first →
    Completed eyes owed view second → first ≡ second
completed_once eyes nothing view first second one two = one ∙ sym two
completed_once eyes (goes_on host place frame token) view first second one two = one ∙ sym two
completed_once eyes (gives token) view first second one two =
    given_once eyes view token (view.hosts token.host).entries first second one two

pub deep_owes : (eyes : Eyes) (host other : HostId) (place next : ℕ) (frame later : FrameId) (token : Token) →
    is_deep eyes host place ≡ true → is_deep eyes other next ≡ true →
    owed_at eyes (at host place frame token) ≡ owed_at eyes (at other next later token)
deep_owes eyes host other place next frame later token deep deep_next = rw (deep, deep_next) refl

-- ---- messages

pub flight_added : (eyes : Eyes) (from to : HostId) (flights : List Flight) (flight : Flight) →
    flies_open eyes flight ≡ false →
    flights_view eyes from to (flights ++ flight ∷ []) ≡ flights_view eyes from to flights
flight_added eyes from to flights flight hidden =
    ap (map (flight_view eyes from to)) (left_last (flies_open eyes) flights flight hidden)

pub flight_taken : (eyes : Eyes) (from to : HostId) (flights : List Flight) (place : ℕ) (flight : Flight) →
    slice_get flights place ≡ Some flight → flies_open eyes flight ≡ false →
    flights_view eyes from to (remove flights place) ≡ flights_view eyes from to flights
flight_taken eyes from to flights place flight there hidden =
    ap (map (flight_view eyes from to)) (left_removed (flies_open eyes) flights place flight there hidden)

-- ---- hosts

pub unseen_thread : (eyes : Eyes) (host : HostId) (thread : ThreadShape) → is_open eyes host thread.at ≡ false →
    running_view eyes host (Some thread) ≡ []
unseen_thread eyes host thread hidden = rw hidden refl

-- what is seen of a host that leaves what may be seen of it
pub still_shows : (eyes : Eyes) (host : HostId) (old new : HostState) (view : HostView) →
    ShowsHost eyes host old view → StaysSeen eyes host old new →
    running_view eyes host new.running ≡ running_view eyes host old.running →
    filter (is_shown eyes) new.entries ≡ filter (is_shown eyes) old.entries → ShowsHost eyes host new view
still_shows eyes host old new view shows stays runs entries = record {
  key = stays.key ∙ shows.key;
  rows = λ field seen. stays.rows field seen ∙ shows.rows field seen;
  variables = λ frame x seen. stays.variables frame x seen ∙ shows.variables frame x seen;
  running = runs ∙ shows.running;
  waiting = ap (map (waiter_view eyes host)) stays.waiting ∙ shows.waiting;
  entries = entries ∙ shows.entries;
  serials = λ number shown. stays.serials number shown ∙ shows.serials number shown;
  frames = λ site label is seen. stays.frames site label is seen ∙ shows.frames site label is seen;
  requests = λ place seen. stays.requests place seen ∙ shows.requests place seen;
}

-- ---- the chain

-- a link on its host
pub link_first : (host : HostId) (entry : StackEntry) (links : List HiddenEntry) →
    links_on host (record { host = host; entry = entry } ∷ links) ≡ entry ∷ links_on host links
link_first host entry links =
    ap (λ b. if b then entry ∷ links_on host links else links_on host links) (itself host.0)

pub entry_hidden : (eyes : Eyes) (host : HostId) (links : List HiddenEntry) (entries : List StackEntry)
    (top : StackEntry) →
    is_hidden eyes top.entry.0 ≡ true → entries ≡ links_on host links ++ filter (is_shown eyes) entries →
    top ∷ entries
    ≡ links_on host (record { host = host; entry = top } ∷ links) ++ filter (is_shown eyes) (top ∷ entries)
entry_hidden eyes host links entries top hidden are =
    ap (λ rest. top ∷ rest) are
    ∙ ap (λ shown. top ∷ links_on host links ++ shown)
    (sym (left_first (is_shown eyes) top entries (ap not hidden)))
    ∙ ap (λ own. own ++ filter (is_shown eyes) (top ∷ entries)) (sym (link_first host top links))
