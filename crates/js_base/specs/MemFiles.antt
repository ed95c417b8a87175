-- What files in memory are to their callers, and what each call leaves of them.
use Rattle.std.specs.Prelude.{ℕ, List, map, Contains, Option, Vec, String, string_bytes, bytes_eq}
use Rattle.std.specs.declared.alloc.Global.{Global}
use Rattle.std.specs.Map.{lookup}
use Rattle.js_base.specs.Counts.{counted}

-- each name beside its bytes, and the numbers of the calls that are to fail; the calls, of both kinds together,
-- the faults, the loads and the saves so far; and the name of the last fault, empty at first
pub record FilesInMemory : Type 0 where
  pub files : List (List ℕ × List ℕ)
  pub failing : List ℕ
  pub calls : ℕ
  pub faults : ℕ
  pub loads : ℕ
  pub saves : ℕ
  pub failed : List ℕ

-- the names and the bytes of pairs of the program
abbrev pub named_bytes : List (String Global × Vec ℕ Global) → List (List ℕ × List ℕ)
named_bytes files = map (λ file. (string_bytes file.0, file.1.items)) files

-- what is held under a name: the bytes of the first pair that has it
abbrev pub held_in : List (List ℕ × List ℕ) → List ℕ → Option (List ℕ)
held_in files name = lookup (bytes_eq name) files

-- the call to come is one that is to fail
abbrev pub IsListed : FilesInMemory → Type 0
IsListed state = Contains state.failing state.calls

-- with one more load
abbrev pub after_load : FilesInMemory → FilesInMemory
after_load state = record state { calls = counted state.calls; loads = counted state.loads }

-- with one more save, whatever it replaced
abbrev pub after_save : FilesInMemory → FilesInMemory
after_save state = record state { calls = counted state.calls; saves = counted state.saves }

-- with one more fault, at a name
abbrev pub after_fault : List ℕ → FilesInMemory → FilesInMemory
after_fault name state = record state { faults = counted state.faults; failed = name }
