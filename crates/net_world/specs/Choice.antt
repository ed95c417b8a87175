-- The event that comes next where no host misbehaves and nobody chooses.
use Rattle.std.specs.Prelude.{◌≡◌, ◌≢◌, ◌<◌, Option, Some, None, IsSome, IsSomeAnd, []}
use Rattle.js_base.specs.declared.ids.HostId.{HostId}
use Rattle.event_text.specs.declared.event.Event.{Event}
use Rattle.event_text.specs.declared.event.Event.TheVariants.{Take, Turn, Act}
use Rattle.net_world.specs.World.{WorldShape, state_at}

-- a thread runs on the host
abbrev pub Runs : WorldShape → HostId → Type 0
Runs world host = IsSomeAnd (state_at world host) (λ state. IsSome state.running)

-- it is the first in order on which a thread runs
pub record IsFirstRunning (world : WorldShape) (host : HostId) : Type 0 where
  pub runs : Runs world host
  pub first : (earlier : HostId) → earlier.0 < host.0 → ¬ Runs world earlier

abbrev pub NoneRuns : WorldShape → Type 0
NoneRuns world = (host : HostId) → ¬ Runs world host

abbrev pub Flies : WorldShape → HostId → HostId → Type 0
Flies world from to = world.flying from to ≢ []

abbrev pub NothingFliesFrom : WorldShape → HostId → Type 0
NothingFliesFrom world from = (to : HostId) → ¬ Flies world from to

abbrev pub NothingFlies : WorldShape → Type 0
NothingFlies world = (from : HostId) → NothingFliesFrom world from

-- it is the first to which a message of this host is in flight
pub record IsFirstFrom (world : WorldShape) (from to : HostId) : Type 0 where
  pub flies : Flies world from to
  pub first : (earlier : HostId) → earlier.0 < to.0 → ¬ Flies world from earlier

-- it is the first pair with a message in flight, by the sender and then by the target
pub record IsFirstFlying (world : WorldShape) (from to : HostId) : Type 0 where
  pub sender : (earlier : HostId) → earlier.0 < from.0 → NothingFliesFrom world earlier
  pub target : IsFirstFrom world from to

-- The first host that runs makes a turn. Where none runs, the first pair's oldest message is taken; where none is in
-- flight either, nothing happens any more.
abbrev pub IsNextEvent : WorldShape → Option Event → Type 0
IsNextEvent world None = NoneRuns world × NothingFlies world
IsNextEvent world (Some (Turn host)) = IsFirstRunning world host
IsNextEvent world (Some (Take from to place)) = NoneRuns world × IsFirstFlying world from to × (place ≡ 0)
IsNextEvent world (Some (Act from to made)) = ⊥
