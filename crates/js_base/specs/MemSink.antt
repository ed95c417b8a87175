-- What a sink in memory is to its callers, and what each call leaves of it.
use Rattle.std.specs.Prelude.{ℕ, List, ◌++◌, Contains}
use Rattle.js_base.specs.Counts.{counted}

-- all that was taken, the numbers of the calls that are to fail, and the calls and the faults so far
pub record SinkInMemory : Type 0 where
  pub taken : List ℕ
  pub failing : List ℕ
  pub calls : ℕ
  pub faults : ℕ

-- the call to come is one that is to fail
abbrev pub IsListed : SinkInMemory → Type 0
IsListed state = Contains state.failing state.calls

-- with one more call
abbrev pub after_call : SinkInMemory → SinkInMemory
after_call state = record state { calls = counted state.calls }

-- with one more fault
abbrev pub after_fault : SinkInMemory → SinkInMemory
after_fault state = record state { faults = counted state.faults }

-- with the bytes at the end
abbrev pub with_bytes : List ℕ → SinkInMemory → SinkInMemory
with_bytes bytes state = record state { taken = state.taken ++ bytes }
