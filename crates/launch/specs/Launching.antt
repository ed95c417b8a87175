-- What a launch does: it starts a program with each list of words, and then waits for each child.
use Rattle.std.specs.Prelude.{◌≡◌, ◌+◌, ◌++◌, ℕ, ℤ, ⊤, List, [], ◌∷◌, length, Result, Ok, Err, Contains, Option}
use Rattle.std.specs.List.{AllZip, flat_map, sum_by, zip}
use Rattle.child_programs.specs.Children.{without}
use Rattle.child_programs.specs.declared.spawner.SpawnError.{SpawnError}
use Rattle.launch.specs.declared.child_end.ChildEnd.{ChildEnd}
use Rattle.launch.specs.Starts.{SpawnAnswers, Grew, MayEnd, RoseBy, SpawnerState, ChildStart, child_of, end_of}
use Rattle.launch.specs.Starts.{failed_start}
use Rattle.launch.specs.Starts.{failure, given_by, request_of}

-- the requests for lists of words, in order, by what came of each
abbrev pub requests : List ℕ → List (List (List ℕ)) → List ChildStart → List (List ℕ × List (List ℕ))
requests program words starts = flat_map (λ one. request_of program one.0 one.1) (zip words starts)

-- what they gave
abbrev pub given : List ChildStart → List (Option ℕ)
given starts = flat_map given_by starts

-- the children that were started
abbrev pub children : List (Result ℕ SpawnError) → List ℕ
children answers = flat_map child_of answers

-- how they ended, as far as `wait` gave a status
abbrev pub statuses : List (Result ℕ SpawnError) → List ChildEnd → List (ℕ × ℤ)
statuses answers ends = flat_map (λ one. end_of one.0 one.1) (zip answers ends)

-- how many children were not started or not waited for
abbrev pub failures : List ChildEnd → ℕ
failures ends = sum_by failure ends

-- What a launch leaves of a spawner. To each list of words there is what came of its request, the answer of `spawn`,
-- and an end. Requests were made in the order of the lists, and children were waited for in this order too; none is
-- left to be waited for. So the status of an end is the one that `wait` gave for the child that was started for these
-- words.
pub record Launched (program : List ℕ) (words : List (List (List ℕ))) (ends : List ChildEnd) (old new : SpawnerState)
    : Type 0 where
  pub starts : List ChildStart
  pub answers : List (Result ℕ SpawnError)
  pub many : length starts ≡ length words
  pub answered : AllZip SpawnAnswers starts answers
  pub may_end : AllZip MayEnd answers ends
  pub asked : Grew (requests program words starts) old.asked new.asked
  pub gave : Grew (given starts) old.gave new.gave
  pub ended : Grew (statuses answers ends) old.ended new.ended
  pub live : new.live ≡ old.live
  pub faults : RoseBy (failures ends) old.faults new.faults

-- ---- its two halves

-- what one call of `spawn` leaves
pub record Spawned (program : List ℕ) (words : List (List ℕ)) (answer : Result ℕ SpawnError) (old new : SpawnerState)
    : Type 0 where
  pub start : ChildStart
  pub answered : SpawnAnswers start answer
  pub asked : Grew (request_of program words start) old.asked new.asked
  pub gave : Grew (given_by start) old.gave new.gave
  pub ended : new.ended ≡ old.ended
  pub live : new.live ≡ old.live ++ child_of answer
  pub fresh : (child : ℕ) → Contains (child_of answer) child → Contains old.live child → ⊥
  pub faults : RoseBy (failed_start answer) old.faults new.faults

-- no number stands twice among the children, or among others
abbrev pub AreApartChildren : List ℕ → List ℕ → Type 0
AreApartChildren others [] = ⊤
AreApartChildren others (child ∷ more) =
    (Contains others child → ⊥) × (Contains more child → ⊥) × AreApartChildren others more

-- what the calls of `spawn` for lists of words leave
pub record AllStarted (program : List ℕ) (words : List (List (List ℕ))) (answers : List (Result ℕ SpawnError))
    (old new : SpawnerState) : Type 0 where
  pub starts : List ChildStart
  pub many : length starts ≡ length words
  pub answered : AllZip SpawnAnswers starts answers
  pub asked : Grew (requests program words starts) old.asked new.asked
  pub gave : Grew (given starts) old.gave new.gave
  pub ended : new.ended ≡ old.ended
  pub live : new.live ≡ old.live ++ children answers
  pub apart : AreApartChildren old.live (children answers)
  pub faults : RoseBy (sum_by failed_start answers) old.faults new.faults

-- without the child that a call of `spawn` gave
abbrev pub without_started : Result ℕ SpawnError → List ℕ → List ℕ
without_started (Ok child) live = without child live
without_started (Err why) live = live

-- others are live, and these children apart from them
pub record AreLive (others live started : List ℕ) : Type 0 where
  pub live_is : live ≡ others ++ started
  pub apart : AreApartChildren others started

-- what the wait for a child leaves, where one was started
pub record Waited (answer : Result ℕ SpawnError) (end : ChildEnd) (old new : SpawnerState) : Type 0 where
  pub may_end : MayEnd answer end
  pub asked : new.asked ≡ old.asked
  pub gave : new.gave ≡ old.gave
  pub ended : Grew (end_of answer end) old.ended new.ended
  pub live : new.live ≡ without_started answer old.live
  pub faults : (before more : ℕ) → RoseBy (failed_start answer + more) before old.faults →
      RoseBy (failure end + more) before new.faults

-- what the waits for the children leave that these answers gave
pub record AllEnded (others : List ℕ) (answers : List (Result ℕ SpawnError)) (ends : List ChildEnd)
    (before : ℕ) (old new : SpawnerState) : Type 0 where
  pub may_end : AllZip MayEnd answers ends
  pub asked : new.asked ≡ old.asked
  pub gave : new.gave ≡ old.gave
  pub ended : Grew (statuses answers ends) old.ended new.ended
  pub live : new.live ≡ others
  pub faults : RoseBy (failures ends) before new.faults
