-- What a spawner in memory is to its callers, and what each call leaves of it.
use Rattle.std.specs.Prelude.{ℕ, ℤ, ◌+◌, List, [], ◌∷◌, ◌++◌, Option, Some, None, Contains, pos, slice_get, unwrap_or}
use Rattle.js_base.specs.Counts.{counted}
use Rattle.child_programs.specs.Children.{without}

-- The programs that it was asked to start, each with its words, and what each of these requests gave; how the children
-- ended that it was waited for; those that are still to be waited for; the statuses with which children end; the
-- numbers of the calls that are to fail; the number of the next child; and the calls and the faults so far.
pub record SpawnerInMemory : Type 0 where
  pub asked : List (List ℕ × List (List ℕ))
  pub gave : List (Option ℕ)
  pub ended : List (ℕ × ℤ)
  pub live : List ℕ
  pub statuses : List ℤ
  pub failing : List ℕ
  pub next : ℕ
  pub calls : ℕ
  pub faults : ℕ

-- the call to come is one that is to fail
abbrev pub IsListed : SpawnerInMemory → Type 0
IsListed state = Contains state.failing state.calls

-- with one more call
abbrev pub after_call : SpawnerInMemory → SpawnerInMemory
after_call state = record state { calls = counted state.calls }

-- with one more fault
abbrev pub after_fault : SpawnerInMemory → SpawnerInMemory
after_fault state = record state { faults = counted state.faults }

-- with a program and its words behind those that were asked for, which gave no child
abbrev pub after_refusal : List ℕ → List (List ℕ) → SpawnerInMemory → SpawnerInMemory
after_refusal program words state = record state {
  asked = state.asked ++ (program, words) ∷ [];
  gave = state.gave ++ None ∷ [];
}

-- with a program and its words behind those that were asked for, which gave the next child
abbrev pub after_start : List ℕ → List (List ℕ) → SpawnerInMemory → SpawnerInMemory
after_start program words state = record state {
  asked = state.asked ++ (program, words) ∷ [];
  gave = state.gave ++ Some state.next ∷ [];
  live = state.live ++ state.next ∷ [];
  next = state.next + 1;
}

-- the status with which a child ends: the one at its number, and 0 past the list
abbrev pub status_of : SpawnerInMemory → ℕ → ℤ
status_of state child = unwrap_or (slice_get state.statuses child) (pos 0)

-- without a child that it was waited for
abbrev pub after_wait : ℕ → SpawnerInMemory → SpawnerInMemory
after_wait child state = record state { live = without child state.live }

-- with how a child ended behind the others
abbrev pub after_end : ℕ → SpawnerInMemory → SpawnerInMemory
after_end child state = record state { ended = state.ended ++ (child, status_of state child) ∷ [] }
