-- What a spawner of the system is to its callers.
use Rattle.std.specs.Prelude.{ℕ, List}

-- the children that are still to be waited for, the number of the next child, and the faults so far
pub record SpawnerCounts : Type 0 where
  pub live : List ℕ
  pub next : ℕ
  pub faults : ℕ
