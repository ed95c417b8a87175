-- Which host runs first, and which pair has the first message.
use Rattle.std.proofs.Common.{◌≡◌, ◌≢◌, ℕ, zero, suc, ◌+◌, ◌<◌, ◌≤◌, Bool, true, false, List, [], ◌∷◌, length, get_or}
use Rattle.std.proofs.Common.{refl}
use Rattle.std.proofs.Common.{ap, sym, subst, arith, Option, Some, None, inl, inr}
use Rattle.std.specs.Prelude.{slice_get, IsSome, IsSomeAnd, nat_lt, ◌&&◌, if◌then◌else◌}
use Rattle.std.specs.Option.{option_map}
use Rattle.std.proofs.lemmas.Bool.{cases_lt}
use Rattle.std.proofs.lemmas.Bool.Decides.{nat_tests}
use Rattle.js_base.specs.declared.ids.HostId.{HostId}
use Rattle.host_core.specs.Host.{HostModel, HostState, state_of}
use Rattle.net_world.specs.Flying.{Flight, flights_of, flights_at, pair_place}
use Rattle.net_world.specs.World.{given, present}
use Rattle.net_world.specs.Choice.{Runs, NoneRuns, Flies, NothingFlies, NothingFliesFrom}
use Rattle.net_world.specs.Fits.{WorldModel, world_of}
use Rattle.net_world.proofs.Present.{present_states, get_lt}

-- a host of the number is the one below a number, or the last below the next
pub below_more : (P : HostId → Type 0) (n : ℕ) → ((earlier : HostId) → earlier.0 < n → P earlier) →
    P (record { 0 = n }) → (host : HostId) → host.0 < n + 1 → P host
below_more P n before last host lt =
    elim (cases_lt host.0 n) [
      | inl less ↦ before host less
      | inr past ↦ (
          let make : ℕ → HostId = λ k. record { 0 = k } in
          let same : make n ≡ host = ap make (omega arith) in
          subst P same last)
    ]

running_model : (o : Option HostModel) → IsSomeAnd (option_map state_of o) (λ (s : HostState). IsSome s.running) →
    IsSomeAnd o (λ (h : HostModel). IsSome h.running)
running_model None runs = runs
running_model (Some host) runs = runs

running_state : (o : Option HostModel) → IsSomeAnd o (λ (h : HostModel). IsSome h.running) →
    IsSomeAnd (option_map state_of o) (λ (s : HostState). IsSome s.running)
running_state None runs = runs
running_state (Some host) runs = runs

-- the host of the program runs a thread where its state does
pub runs_model : (world : WorldModel) (host : HostId) → Runs (world_of world) host →
    IsSomeAnd (present world.hosts host) (λ (h : HostModel). IsSome h.running)
runs_model world host runs =
    running_model (present world.hosts host)
    (subst (λ o. IsSomeAnd o (λ (s : HostState). IsSome s.running)) (present_states world.hosts host) runs)

runs_state : (world : WorldModel) (host : HostId) →
    IsSomeAnd (present world.hosts host) (λ (h : HostModel). IsSome h.running) → Runs (world_of world) host
runs_state world host runs =
    subst (λ o. IsSomeAnd o (λ (s : HostState). IsSome s.running)) (sym (present_states world.hosts host))
    (running_state (present world.hosts host) runs)

given_at : {X : Type 0} (hosts : List (Option X)) (i : ℕ) (d : Option X) (P : X → Type 0) → i < length hosts →
    IsSomeAnd (get_or hosts i d) P → IsSomeAnd (given (slice_get hosts i)) P
given_at [] i d P lt has = absurd (omega arith)
given_at (host ∷ hosts) zero d P lt has = has
given_at (host ∷ hosts) (suc i) d P lt has = given_at hosts i d P (omega arith) has

at_given : {X : Type 0} (hosts : List (Option X)) (i : ℕ) (d : Option X) (P : X → Type 0) → i < length hosts →
    IsSomeAnd (given (slice_get hosts i)) P → IsSomeAnd (get_or hosts i d) P
at_given [] i d P lt has = absurd (omega arith)
at_given (host ∷ hosts) zero d P lt has = has
at_given (host ∷ hosts) (suc i) d P lt has = at_given hosts i d P (omega arith) has

pub runs_here : (world : WorldModel) (i : ℕ) (d : Option HostModel) → i < length world.hosts →
    IsSomeAnd (get_or world.hosts i d) (λ (h : HostModel). IsSome h.running) →
    Runs (world_of world) (record { 0 = i })
runs_here world i d lt runs = runs_state world (record { 0 = i })
    (given_at world.hosts i d (λ (h : HostModel). IsSome h.running) lt runs)

pub none_more : (world : WorldModel) (i : ℕ) (d : Option HostModel) → i < length world.hosts →
    ((earlier : HostId) → earlier.0 < i → ¬ Runs (world_of world) earlier) →
    (IsSomeAnd (get_or world.hosts i d) (λ (h : HostModel). IsSome h.running) → ⊥) → (earlier : HostId) →
    earlier.0 < i + 1 → ¬ Runs (world_of world) earlier
none_more world i d lt before rests =
    below_more (λ host. ¬ Runs (world_of world) host) i before
    (λ runs. rests (at_given world.hosts i d (λ (h : HostModel). IsSome h.running) lt
    (runs_model world (record { 0 = i }) runs)))

pub none_runs : (world : WorldModel) (n : ℕ) → length world.hosts ≤ n →
    ((earlier : HostId) → earlier.0 < n → ¬ Runs (world_of world) earlier) → NoneRuns (world_of world)
none_runs world n all before host runs =
    let lt = get_lt world.hosts host.0 (λ (h : HostModel). IsSome h.running) (runs_model world host runs) in
    before host (omega arith) runs

-- ---- what is in flight

empty_past : (count : ℕ) (queues : List (List Flight)) (i j : HostId) (there : Bool) →
    (nat_lt i.0 count && nat_lt j.0 count) ≡ there → (if there then flights_at queues (pair_place i j) else []) ≢ [] →
    (i.0 < count) × (j.0 < count)
empty_past count queues i j true within flies = (grind (arith, nat_tests), grind (arith, nat_tests))
empty_past count queues i j false within flies = absurd (flies refl)

-- what flies goes from a host to a host
flies_within : (world : WorldModel) (i j : HostId) → Flies (world_of world) i j →
    (i.0 < length world.hosts) × (j.0 < length world.hosts)
flies_within world i j flies =
    empty_past (length world.hosts) (flights_of world.queues) i j
    (nat_lt i.0 (length world.hosts) && nat_lt j.0 (length world.hosts)) refl flies

pub none_flies_more : (world : WorldModel) (from : HostId) (n : ℕ) →
    ((earlier : HostId) → earlier.0 < n → ¬ Flies (world_of world) from earlier) →
    ¬ Flies (world_of world) from (record { 0 = n }) → (earlier : HostId) → earlier.0 < n + 1 →
    ¬ Flies (world_of world) from earlier
none_flies_more world from n before last = below_more (λ to. ¬ Flies (world_of world) from to) n before last

pub none_flies_from : (world : WorldModel) (from : HostId) (n : ℕ) → length world.hosts ≤ n →
    ((earlier : HostId) → earlier.0 < n → ¬ Flies (world_of world) from earlier) →
    NothingFliesFrom (world_of world) from
none_flies_from world from n all before to flies =
    let lt = (flies_within world from to flies).1 in
    before to (omega arith) flies

pub nothing_flies_more : (world : WorldModel) (n : ℕ) →
    ((earlier : HostId) → earlier.0 < n → NothingFliesFrom (world_of world) earlier) →
    NothingFliesFrom (world_of world) (record { 0 = n }) → (earlier : HostId) → earlier.0 < n + 1 →
    NothingFliesFrom (world_of world) earlier
nothing_flies_more world n before last = below_more (NothingFliesFrom (world_of world)) n before last

pub nothing_flies : (world : WorldModel) (n : ℕ) → length world.hosts ≤ n →
    ((earlier : HostId) → earlier.0 < n → NothingFliesFrom (world_of world) earlier) → NothingFlies (world_of world)
nothing_flies world n all before from to flies =
    let lt = (flies_within world from to flies).0 in
    before from (omega arith) to flies

-- ---- what the loops cite

pub ruleset running = (runs_here, none_more, none_runs)

pub ruleset pairs = (nothing_flies_more, nothing_flies)

pub ruleset targets = (none_flies_more, none_flies_from)
