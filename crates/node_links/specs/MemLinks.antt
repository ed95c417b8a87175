-- What links in memory are to their callers, and what each call leaves of them.
use Rattle.std.specs.Prelude.{ℕ, List, [], ◌∷◌, ◌++◌, drop, Contains}
use Rattle.js_base.specs.Counts.{counted}
use Rattle.js_base.specs.declared.ids.HostId.{HostId}

-- the hosts as which they began, each with the paths of all hosts; the frames that are left and those that were sent;
-- the numbers of the calls that are to fail; and the calls and the faults so far
pub record LinksInMemory : Type 0 where
  pub begun : List (HostId × List (List ℕ))
  pub left : List (List ℕ)
  pub sent : List (HostId × List ℕ)
  pub failing : List ℕ
  pub calls : ℕ
  pub faults : ℕ

-- the call to come is one that is to fail
abbrev pub IsListed : LinksInMemory → Type 0
IsListed state = Contains state.failing state.calls

-- with one more call
abbrev pub after_call : LinksInMemory → LinksInMemory
after_call state = record state { calls = counted state.calls }

-- with one more fault
abbrev pub after_fault : LinksInMemory → LinksInMemory
after_fault state = record state { faults = counted state.faults }

-- with a host as which they began behind the others
abbrev pub after_begin : HostId → List (List ℕ) → LinksInMemory → LinksInMemory
after_begin me paths state = record state { begun = state.begun ++ (me, paths) ∷ [] }

-- without the next frame
abbrev pub after_next : LinksInMemory → LinksInMemory
after_next state = record state { left = drop 1 state.left }

-- with a frame to a host behind those that were sent
abbrev pub after_send : HostId → List ℕ → LinksInMemory → LinksInMemory
after_send to bytes state = record state { sent = state.sent ++ (to, bytes) ∷ [] }
