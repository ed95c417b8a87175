-- What misbehaving hosts may see is decided: whether they read a label, whether an event is secret, and whether a world
-- is quiet.
use Rattle.std.proofs.Common.{◌≡◌, ◌∙◌, ℕ, zero, suc, ◌<◌, ◌≤◌, inl, inr, Bool, List, [], ◌∷◌, length, map, arith}
use Rattle.std.proofs.Common.{Option}
use Rattle.std.proofs.Common.{Some, None, refl, sym, subst}
use Rattle.std.specs.Prelude.{⊤, All, IfSome, IsSomeAnd, IsTrue, slice_get}
use Rattle.std.proofs.lemmas.Bool.{cases_Bool, cases_lt, false≢true}
use Rattle.js_base.specs.declared.ids.HostId.{HostId}
use Rattle.js_base.proofs.Decisions.{Decided, never, both, as_well, all_below, all_of}
use Rattle.event_text.specs.declared.event.Event.{Event}
use Rattle.event_text.specs.declared.event.Event.TheVariants.{Take, Turn, Act}
use Rattle.host_code.specs.Code.{CodeShape}
use Rattle.entry_check.specs.Checks.{MaySee, label_at, label_of_host}
use Rattle.entry_check.proofs.Decisions.{some_and, may_see}
use Rattle.host_core.specs.Host.{HostState}
use Rattle.host_core.specs.Turn.{label_of_turn}
use Rattle.net_world.specs.Flying.{Flight}
use Rattle.net_world.specs.World.{WorldShape, state_at, lacks}
use Rattle.net_world.specs.Fits.{ShapeFits}
use Rattle.net_world.specs.Secret.{IsMisbehavingReader, IsReadBy, IsReadable, IsSecret, FlyOpenly, RunsOpenly, IsQuiet}
use Rattle.net_world.proofs.Fitting.{is_bad_host}
use Rattle.net_world.proofs.Present.{get_lt}

is_true : (b : Bool) → Decided (IsTrue b)
is_true b = elim (cases_Bool b) [ inl is ↦ inl is | inr not ↦ inr (λ is. false≢true (sym not ∙ is)) ]

abbrev host_of : ℕ → HostId
host_of number = record { 0 = number }

-- ---- labels

reads : (code : CodeShape) (hosts : List (Option HostState)) (label : ℕ) (host : HostId) →
    Decided (IsMisbehavingReader code hosts label host)
reads code hosts label host =
    both _ _ (is_true (lacks hosts host)) (may_see (label_at code label) (label_of_host code host))

-- some number below another has the property
pub some_below : (n : ℕ) (P : ℕ → Type 0) → ((k : ℕ) → Decided (P k)) → Decided ((k : ℕ) × (k < n) × P k)
some_below zero P each = inr (λ some. absurd (omega (arith, some.1)))
some_below (suc n) P each = elim (each n) [
  | inl here ↦ inl (n, omega arith, here)
  | inr not ↦ elim (some_below n P each) [
    | inl some ↦ inl (some.0, omega (arith, some.1), some.2)
    | inr none ↦ inr (λ some. elim (cases_lt some.0 n) [
      | inl less ↦ none (some.0, less, some.2)
      | inr more ↦ (
          let same : some.0 ≡ n = omega (arith, some.1, more) in
          not (subst P same some.2))
    ])
  ]
]

pub readable : (code : CodeShape) (world : WorldShape) (label : ℕ) → Decided (IsReadable code world label)
readable code world label =
    as_well ((k : ℕ) × (k < length world.hosts) × IsMisbehavingReader code world.hosts label (host_of k))
    (IsReadable code world label)
    (λ some. (host_of some.0, some.2))
    (λ some. (some.0.0, is_bad_host world.hosts some.0.0 some.1.0, some.1))
    (some_below (length world.hosts) (λ k. IsMisbehavingReader code world.hosts label (host_of k))
    (λ k. reads code world.hosts label (host_of k)))

-- ---- events

pub secret : (code : CodeShape) (world : WorldShape) (event : Event) → Decided (IsSecret code world event)
secret code world (Take from to place) =
    some_and (λ (flight : Flight). ¬ IsReadable code world flight.label)
    (λ flight. never _ (readable code world flight.label)) (slice_get (world.flying from to) place)
secret code world (Turn host) =
    some_and (λ (state : HostState).
    IsSomeAnd (label_of_turn code state) (λ label. ¬ IsReadable code world label))
    (λ state. some_and (λ label. ¬ IsReadable code world label) (λ label. never _ (readable code world label))
    (label_of_turn code state))
    (state_at world host)
secret code world (Act from to made) = inr (λ never. never)

-- ---- worlds

runs_openly : (code : CodeShape) (world : WorldShape) (state : HostState) → Decided (RunsOpenly code world state)
runs_openly code world state = of (label_of_turn code state)
  where
    of : (label : Option ℕ) → Decided (IfSome label (IsReadable code world))
    of None = inl tt
    of (Some label) = readable code world label

if_there : (code : CodeShape) (world : WorldShape) (state : Option HostState) →
    Decided (IfSome state (RunsOpenly code world))
if_there code world None = inl tt
if_there code world (Some state) = runs_openly code world state

-- what the hosts below a number run and what is in flight between them
abbrev AreOpenBelow : CodeShape → WorldShape → ℕ → Type 0
AreOpenBelow code world n =
    ((k : ℕ) → k < n → IfSome (state_at world (host_of k)) (RunsOpenly code world))
    × ((k : ℕ) → k < n → (m : ℕ) → m < n → FlyOpenly code world (host_of k) (host_of m))

open_below : (code : CodeShape) (world : WorldShape) (n : ℕ) → Decided (AreOpenBelow code world n)
open_below code world n =
    both _ _
    (all_below n _ (λ k. if_there code world (state_at world (host_of k))))
    (all_below n _ (λ k. all_below n _ (λ m. all_of (λ (flight : Flight). IsReadable code world flight.label)
    (λ flight. readable code world flight.label) (world.flying (host_of k) (host_of m)))))

-- a host of a number is one that is there, or nothing is in flight from it and to it
flies_within : (code : CodeShape) (world : WorldShape) → ShapeFits code world →
    AreOpenBelow code world (length code.hosts) → (from to : HostId) → FlyOpenly code world from to
flies_within code world fits seen from to k d lt =
    let one = fits.mail.flying from to k d lt in
    seen.1 from.0 one.sender to.0 one.target.0 k d lt

pub quiet : (code : CodeShape) (world : WorldShape) → ShapeFits code world → Decided (IsQuiet code world)
quiet code world fits =
    as_well (AreOpenBelow code world (length code.hosts)) (IsQuiet code world)
    (λ seen. record { flying = flies_within code world fits seen; running = within seen })
    (λ is. ((λ k lt. told is k), (λ k lt m less. is.flying (host_of k) (host_of m))))
    (open_below code world (length code.hosts))
  where
    told : IsQuiet code world → (k : ℕ) → IfSome (state_at world (host_of k)) (RunsOpenly code world)
    told is k = of (state_at world (host_of k)) refl
      where
        of : (state : Option HostState) → state_at world (host_of k) ≡ state → IfSome state (RunsOpenly code world)
        of None obeys = tt
        of (Some state) obeys = is.running (host_of k) state obeys

    within : AreOpenBelow code world (length code.hosts) → (host : HostId) (state : HostState) →
        state_at world host ≡ Some state → RunsOpenly code world state
    within seen host state obeys =
        let lt = get_lt world.hosts host.0 (λ (it : HostState). ⊤) (subst (λ (found : Option HostState).
        IsSomeAnd found (λ it. ⊤)) (sym obeys) tt) in
        let same = fits.count in
        subst (λ (found : Option HostState). IfSome found (RunsOpenly code world)) obeys (seen.0 host.0 (omega arith))
