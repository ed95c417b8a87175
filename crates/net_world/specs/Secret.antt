-- What no misbehaving host may see of a world: what is in flight, what runs, and what events happen.
use Rattle.std.specs.Prelude.{◌≡◌, ◌⊎◌, ◌↔◌, ⊤, ℕ, Bool, Option, List, [], ◌∷◌, All, Some, IfSome, IsSomeAnd, IsTrue}
use Rattle.std.specs.Prelude.{slice_get}
use Rattle.js_base.specs.declared.ids.HostId.{HostId}
use Rattle.event_text.specs.declared.event.Event.{Event}
use Rattle.event_text.specs.declared.event.Event.TheVariants.{Take, Turn, Act}
use Rattle.host_code.specs.Code.{CodeShape}
use Rattle.entry_check.specs.Checks.{MaySee, label_at, label_of_host}
use Rattle.host_core.specs.Host.{HostState}
use Rattle.host_core.specs.Turn.{label_of_turn}
use Rattle.net_world.specs.Flying.{may_be_seen}
use Rattle.net_world.specs.World.{WorldShape, state_at, lacks, IsStep}

-- a misbehaving host that may see the label at this place among the code's labels
abbrev pub IsMisbehavingReader : CodeShape → List (Option HostState) → ℕ → HostId → Type 0
IsMisbehavingReader code hosts label host = IsTrue (lacks hosts host)
    × MaySee (label_at code label) (label_of_host code host)

abbrev pub IsReadBy : CodeShape → List (Option HostState) → ℕ → Type 0
IsReadBy code hosts label = (host : HostId) × IsMisbehavingReader code hosts label host

-- a label that some misbehaving host may see
abbrev pub IsReadable : CodeShape → WorldShape → ℕ → Type 0
IsReadable code world label = IsReadBy code world.hosts label

-- the list tells for each label whether some misbehaving host may see it
pub record AreReadable (code : CodeShape) (world : WorldShape) (readable : List Bool) : Type 0 where
  pub each : (label : ℕ) → IsTrue (may_be_seen readable label) ↔ IsReadable code world label

-- A turn is secret where the label of its instruction is not readable, and a take where the label is not that its
-- message carries. An act never is.
abbrev pub IsSecret : CodeShape → WorldShape → Event → Type 0
IsSecret code world (Take from to place) =
    IsSomeAnd (slice_get (world.flying from to) place) (λ flight. ¬ IsReadable code world flight.label)
IsSecret code world (Turn host) =
    IsSomeAnd (state_at world host) (λ state.
    IsSomeAnd (label_of_turn code state) (λ label. ¬ IsReadable code world label))
IsSecret code world (Act from to made) = ⊥

-- what is in flight from a host to a host may be seen
abbrev pub FlyOpenly : CodeShape → WorldShape → HostId → HostId → Type 0
FlyOpenly code world from to = All (λ flight. IsReadable code world flight.label) (world.flying from to)

-- the instruction that a host would run at its turn may be seen
abbrev pub RunsOpenly : CodeShape → WorldShape → HostState → Type 0
RunsOpenly code world state = IfSome (label_of_turn code state) (IsReadable code world)

-- and so it is of each host
abbrev pub AllRunOpenly : CodeShape → WorldShape → Type 0
AllRunOpenly code world = (host : HostId) → IfSome (state_at world host) (RunsOpenly code world)

-- nothing secret is in flight, and no secret thread runs
pub record IsQuiet (code : CodeShape) (world : WorldShape) : Type 0 where
  pub flying : (from to : HostId) → FlyOpenly code world from to
  pub running : (host : HostId) (state : HostState) → state_at world host ≡ Some state → RunsOpenly code world state

-- of these events those that may be seen, in order, and all of them leave this world
abbrev pub IsSeenRun : CodeShape → WorldShape → List Event → List Event → WorldShape → Type 0
IsSeenRun code world [] seen after = (seen ≡ []) × (world ≡ after)
IsSeenRun code world (event ∷ events) seen after =
    (next : WorldShape) × IsStep code world event next
    × ((IsSecret code world event × IsSeenRun code next events seen after)
    ⊎ ((¬ IsSecret code world event)
    × ((others : List Event) × (seen ≡ event ∷ others) × IsSeenRun code next events others after)))

-- at each event that may be seen nothing secret is in flight, and no secret thread runs
abbrev pub IsPrompt : CodeShape → WorldShape → List Event → Type 0
IsPrompt code world [] = ⊤
IsPrompt code world (event ∷ events) =
    (IsSecret code world event ⊎ IsQuiet code world)
    × ((next : WorldShape) → IsStep code world event next → IsPrompt code next events)
