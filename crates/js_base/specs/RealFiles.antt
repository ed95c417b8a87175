-- What the files of the system are to their callers: counts, and nothing of what is held.
use Rattle.std.specs.Prelude.{ℕ, List}
use Rattle.js_base.specs.Counts.{counted}

-- the faults, the loads and the saves so far, and the name of the last fault, empty at first
pub record FileCounts : Type 0 where
  pub faults : ℕ
  pub loads : ℕ
  pub saves : ℕ
  pub failed : List ℕ

-- with one more fault, at a name
abbrev pub after_fault : List ℕ → FileCounts → FileCounts
after_fault name state = record state { faults = counted state.faults; failed = name }
