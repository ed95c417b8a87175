-- What files that never fail are to their callers, and what each call leaves of them.
use Rattle.std.specs.Prelude.{ℕ, List, [], Option, Some, unwrap_or}
use Rattle.js_base.specs.Counts.{counted}
use Rattle.js_base.specs.MemFiles.{held_in}

-- the names that were given bytes, beside these, and the loads and the saves so far
pub record FilesOfAllNames : Type 0 where
  pub files : List (List ℕ × List ℕ)
  pub loads : ℕ
  pub saves : ℕ

-- every name is held, with no bytes where none were given
abbrev pub held_always : List (List ℕ × List ℕ) → List ℕ → Option (List ℕ)
held_always files name = Some (unwrap_or (held_in files name) [])

-- with one more load
abbrev pub after_load : FilesOfAllNames → FilesOfAllNames
after_load state = record state { loads = counted state.loads }

-- with one more save, whatever it replaced
abbrev pub after_save : FilesOfAllNames → FilesOfAllNames
after_save state = record state { saves = counted state.saves }
