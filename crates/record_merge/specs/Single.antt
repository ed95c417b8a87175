-- Worlds in which the threads that run and the messages in flight are at most one together.
use Rattle.std.specs.Prelude.{◌≡◌, length}
use Rattle.js_base.specs.declared.ids.HostId.{HostId}
use Rattle.net_world.specs.Choice.{Runs, NoneRuns, Flies, NothingFlies}
use Rattle.net_world.specs.World.{WorldShape, AllObey}

-- what goes on: nothing, a thread on a host, or a message from a host to a host
pub data Active : Type 0 where
  nothing : Active
  runs : HostId → Active
  flies : HostId → HostId → Active

-- a thread runs on the host, and on no other
pub record RunsAlone (world : WorldShape) (host : HostId) : Type 0 where
  pub there : Runs world host
  pub alone : (other : HostId) → Runs world other → other ≡ host

-- one message is in flight, from this host to that one
pub record FliesAlone (world : WorldShape) (from to : HostId) : Type 0 where
  pub there : length (world.flying from to) ≡ 1
  pub alone : (sender target : HostId) → Flies world sender target → (sender ≡ from) × (target ≡ to)

-- this and no more goes on
abbrev pub IsOnly : WorldShape → Active → Type 0
IsOnly world nothing = NoneRuns world × NothingFlies world
IsOnly world (runs host) = RunsAlone world host × NothingFlies world
IsOnly world (flies from to) = NoneRuns world × FliesAlone world from to

-- nobody misbehaves, and at most one thing goes on
pub record IsSingle (world : WorldShape) : Type 0 where
  pub obey : AllObey world
  pub active : Active
  pub only : IsOnly world active
