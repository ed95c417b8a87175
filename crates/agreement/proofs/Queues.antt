-- What is seen of a list of which an element is taken out, where nothing of it is hidden: messages and waiting threads.
use Rattle.std.proofs.Common.{◌≡◌, ◌∙◌, ℕ, zero, suc, ◌+◌, Bool, true, false, cond, List, [], ◌∷◌, length, Some, None}
use Rattle.std.proofs.Common.{inl, inr, refl, ap, sym, map}
use Rattle.std.specs.Prelude.{◌==◌, ◌&&◌, if◌then◌else◌, nat_lt, not, filter, remove, slice_get, position}
use Rattle.std.specs.List.{position_or_len}
use Rattle.std.specs.Option.{option_map}
use Rattle.std.proofs.lemmas.Bool.{cases_Bool}
use Rattle.std.proofs.lemmas.List.{length-map}
use Rattle.std.proofs.lemmas.Option.{slice_get-map}
use Rattle.js_base.specs.declared.ids.HostId.{HostId}
use Rattle.net_world.specs.Flying.{Flight}
use Rattle.net_world.specs.World.{WorldShape, without_flight}
use Rattle.net_world.proofs.Present.{same_id}
use Rattle.token_laws.proofs.Tests.{parts_same, number_same}
use Rattle.seen_world.specs.Eyes.{Eyes}
use Rattle.agreement.specs.Leads.{hidden_flights}
use Rattle.agreement.specs.Taken.{view_without}
use Rattle.agreement.specs.Views.{LowView, flies_open, flight_view, flights_view}
use Rattle.agreement.proofs.Lists.{kept_first, left_first, left_removed, kept_some}
use Rattle.agreement.proofs.SeenLeads.{Calm}

-- ---- lists of which nothing is hidden

-- all of it is seen
pub seen_all : {X : Type 0} (p : X → Bool) (xs : List X) → filter (λ x. not (p x)) xs ≡ [] → filter p xs ≡ xs
seen_all p [] none = refl
seen_all p (x ∷ xs) none = elim (cases_Bool (p x)) [
  | inl passes ↦
      kept_first p x xs passes
      ∙ ap (λ rest. x ∷ rest)
      (seen_all p xs (sym (left_first (λ y. not (p y)) x xs (ap not passes)) ∙ none))
  | inr fails ↦
      let kept : x ∷ filter (λ y. not (p y)) xs ≡ [] =
      sym (kept_first (λ y. not (p y)) x xs (ap not fails)) ∙ none in
      absurd (cc)
]

-- and so is whatever is there
pub seen_there : {X : Type 0} (p : X → Bool) (xs : List X) (place : ℕ) (x : X) → slice_get xs place ≡ Some x →
    filter (λ y. not (p y)) xs ≡ [] → p x ≡ true
seen_there p xs place x there none = elim (cases_Bool (p x)) [
  | inl passes ↦ passes
  | inr fails ↦ absurd (kept_some (λ y. not (p y)) xs place x there (ap not fails) none)
]

-- nothing of it is hidden once an element was taken out
pub none_removed : {X : Type 0} (p : X → Bool) (xs : List X) (place : ℕ) (x : X) → slice_get xs place ≡ Some x →
    filter (λ y. not (p y)) xs ≡ [] → filter (λ y. not (p y)) (remove xs place) ≡ []
none_removed p xs place x there none =
    left_removed (λ y. not (p y)) xs place x there (ap not (seen_there p xs place x there none)) ∙ none

map_removed : {X Y : Type 0} (f : X → Y) (xs : List X) (place : ℕ) (x : X) → slice_get xs place ≡ Some x →
    map f (remove xs place) ≡ remove (map f xs) place
map_removed f [] place x there = absurd (cc)
map_removed f (first ∷ xs) zero x there = refl
map_removed f (first ∷ xs) (suc place) x there = ap (λ rest. f first ∷ rest) (map_removed f xs place x there)

-- what is seen of all elements
pub seen_map : {X Y : Type 0} (p : X → Bool) (f : X → Y) (xs : List X) (ys : List Y) →
    filter (λ y. not (p y)) xs ≡ [] → map f (filter p xs) ≡ ys → map f xs ≡ ys
seen_map p f xs ys none shows = sym (ap (map f) (seen_all p xs none)) ∙ shows

pub seen_at : {X Y : Type 0} (p : X → Bool) (f : X → Y) (xs : List X) (ys : List Y) (place : ℕ) (x : X) →
    filter (λ y. not (p y)) xs ≡ [] → map f (filter p xs) ≡ ys → slice_get xs place ≡ Some x →
    slice_get ys place ≡ Some (f x)
seen_at p f xs ys place x none shows there =
    sym (ap (λ all. slice_get all place) (seen_map p f xs ys none shows)) ∙ slice_get-map f xs place
    ∙ ap (option_map f) there

pub seen_removed : {X Y : Type 0} (p : X → Bool) (f : X → Y) (xs : List X) (ys : List Y) (place : ℕ) (x : X) →
    filter (λ y. not (p y)) xs ≡ [] → map f (filter p xs) ≡ ys → slice_get xs place ≡ Some x →
    map f (filter p (remove xs place)) ≡ remove ys place
seen_removed p f xs ys place x none shows there =
    ap (map f) (seen_all p (remove xs place) (none_removed p xs place x there none)) ∙ map_removed f xs place x there
    ∙ ap (λ all. remove all place) (seen_map p f xs ys none shows)

-- the first that passes a test of what is seen of it
first_mapped : {X Y : Type 0} (test : Y → Bool) (f : X → Y) (xs : List X) →
    position_or_len test (map f xs) ≡ position_or_len (λ x. test (f x)) xs
first_mapped test f [] = refl
first_mapped test f (x ∷ xs) = ap (λ n. cond (not (test (f x))) (1 + n) 0) (first_mapped test f xs)

pub position_mapped : {X Y : Type 0} (test : Y → Bool) (f : X → Y) (xs : List X) →
    position test (map f xs) ≡ position (λ x. test (f x)) xs
position_mapped test f xs =
    let first : ℕ = position_or_len (λ x. test (f x)) xs in
    ap (λ n. cond (nat_lt n (length (map f xs))) (Some n) None) (first_mapped test f xs)
    ∙ ap (λ n. cond (nat_lt first n) (Some first) None)
    (length-map xs f)

-- ---- a message is taken out of its queue

-- nothing goes on unseen then, and the same is seen but for the message
pub taken_calm : (eyes : Eyes) (world : WorldShape) (from to : HostId) (place : ℕ) (flight : Flight) (now : LowView) →
    Calm eyes world now → slice_get (world.flying from to) place ≡ Some flight →
    Calm eyes (without_flight world from to place) (view_without now from to place)
taken_calm eyes world from to place flight now calm there = record {
  shows = record {
    hosts = calm.shows.hosts;
    flying = λ i j. seen i j (i.0 == from.0 && j.0 == to.0) refl;
    sent = calm.shows.sent;
  };
  running = calm.running;
  waiting = calm.waiting;
  entries = calm.entries;
  flying = λ i j. none i j (i.0 == from.0 && j.0 == to.0);
}
  where
    left : List Flight
    left = remove (world.flying from to) place

    none : (i j : HostId) (b : Bool) → hidden_flights eyes (if b then left else world.flying i j) ≡ []
    none i j true = none_removed (flies_open eyes) (world.flying from to) place flight there (calm.flying from to)
    none i j false = calm.flying i j

    own : flights_view eyes from to left ≡ remove (now.flying from to) place
    own =
        seen_removed (flies_open eyes) (flight_view eyes from to) (world.flying from to) (now.flying from to) place
        flight (calm.flying from to) (calm.shows.flying from to) there

    seen : (i j : HostId) (b : Bool) → (i.0 == from.0 && j.0 == to.0) ≡ b →
        flights_view eyes i j (if b then left else world.flying i j)
        ≡ (if b then remove (now.flying from to) place else now.flying i j)
    seen i j true is =
        let both = parts_same (i.0 == from.0) (j.0 == to.0) is in
        let one : i ≡ from = same_id i from (number_same i.0 from.0 both.0) in
        let two : j ≡ to = same_id j to (number_same j.0 to.0 both.1) in
        ap (λ (h : HostId). flights_view eyes h j left) one ∙ ap (λ (h : HostId). flights_view eyes from h left) two
        ∙ own
    seen i j false is = calm.shows.flying i j

-- the message that is seen there
pub flight_seen : (eyes : Eyes) (world : WorldShape) (from to : HostId) (place : ℕ) (flight : Flight) (now : LowView) →
    Calm eyes world now → slice_get (world.flying from to) place ≡ Some flight →
    slice_get (now.flying from to) place ≡ Some (flight_view eyes from to flight)
flight_seen eyes world from to place flight now calm there =
    seen_at (flies_open eyes) (flight_view eyes from to) (world.flying from to) (now.flying from to) place flight
    (calm.flying from to) (calm.shows.flying from to) there
