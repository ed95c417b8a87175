-- What a spawner says of itself at a moment, what comes of one start, and how the child ends.
use Rattle.std.specs.Prelude.{◌≡◌, ◌+◌, ◌≤◌, ◌++◌, ◌⊎◌, ℕ, ℤ, ⊤, List, [], ◌∷◌, Option, Some, None, Result, Ok, Err}
use Rattle.std.specs.Option.{option_map}
use Rattle.js_base.specs.Counts.{last_count}
use Rattle.child_programs.specs.declared.spawner.SpawnError.{SpawnError}
use Rattle.child_programs.specs.declared.spawner.SpawnError.TheVariants as error
use Rattle.child_programs.specs.declared.spawner.Spawner as spawners
use Rattle.launch.specs.declared.child_end.ChildEnd.{ChildEnd}
use Rattle.launch.specs.declared.child_end.ChildEnd.TheVariants.{Ended, NotStarted, NotWaited, NoMemory}

-- What a spawner says of itself: its faults and the children that are still to be waited for, and where it tells the
-- programs that it was asked to start with their words, what these requests gave, and how children ended.
pub record SpawnerState : Type 0 where
  pub faults : ℕ
  pub live : List ℕ
  pub asked : Option (List (List ℕ × List (List ℕ)))
  pub gave : Option (List (Option ℕ))
  pub ended : Option (List (ℕ × ℤ))

abbrev pub spawner_state : {P : Type 0} → spawners.Ghosts P → P → SpawnerState
spawner_state of spawner = record {
  faults = of.faults spawner;
  live = of.live spawner;
  asked = of.asked spawner;
  gave = of.gave spawner;
  ended = of.ended spawner;
}

-- a list grew at its end, where it is told
abbrev pub Grew : {A : Type 0} → List A → Option (List A) → Option (List A) → Type 0
Grew more old new = new ≡ option_map (λ all. all ++ more) old

-- A count rose by so many at least, or stands at its last value. It fell at no time, and rose only where there is one.
pub record RoseBy (many before after : ℕ) : Type 0 where
  pub least : (before + many ≤ after) ⊎ (last_count ≤ after)
  pub more : before ≤ after
  pub calm : many ≡ 0 → after ≡ before

-- What came of a request to start a program: none was made, for want of memory, or it gave no child, or this one.
pub data ChildStart : Type 0 where
  unasked : ChildStart
  childless : ChildStart
  started : (child : ℕ) → ChildStart

-- how a call of `spawn` answers
abbrev pub SpawnAnswers : ChildStart → Result ℕ SpawnError → Type 0
SpawnAnswers unasked (Ok child) = ⊥
SpawnAnswers unasked (Err error.OutOfMemory) = ⊤
SpawnAnswers unasked (Err error.Failed) = ⊥
SpawnAnswers childless (Ok child) = ⊥
SpawnAnswers childless (Err why) = ⊤
SpawnAnswers (started number) (Ok child) = child ≡ number
SpawnAnswers (started number) (Err why) = ⊥

-- what was asked for
abbrev pub request_of : List ℕ → List (List ℕ) → ChildStart → List (List ℕ × List (List ℕ))
request_of program words unasked = []
request_of program words childless = (program, words) ∷ []
request_of program words (started child) = (program, words) ∷ []

-- what this gave
abbrev pub given_by : ChildStart → List (Option ℕ)
given_by unasked = []
given_by childless = None ∷ []
given_by (started child) = Some child ∷ []

-- the child that a call of `spawn` gave
abbrev pub child_of : Result ℕ SpawnError → List ℕ
child_of (Ok child) = child ∷ []
child_of (Err why) = []

-- 1 for a call of `spawn` that failed
abbrev pub failed_start : Result ℕ SpawnError → ℕ
failed_start (Ok child) = 0
failed_start (Err error.OutOfMemory) = 0
failed_start (Err error.Failed) = 1

-- How a child may end, by the answer of `spawn`. What was not started ends for the cause of that, and a child that was
-- started with the status that `wait` gave, or for the cause why it gave none.
abbrev pub MayEnd : Result ℕ SpawnError → ChildEnd → Type 0
MayEnd (Ok child) (Ended status) = ⊤
MayEnd (Ok child) NotStarted = ⊥
MayEnd (Ok child) NotWaited = ⊤
MayEnd (Ok child) NoMemory = ⊤
MayEnd (Err error.OutOfMemory) end = end ≡ NoMemory
MayEnd (Err error.Failed) end = end ≡ NotStarted

-- what a spawner tells of how a child ended
abbrev pub end_of : Result ℕ SpawnError → ChildEnd → List (ℕ × ℤ)
end_of (Ok child) (Ended status) = (child, status) ∷ []
end_of (Ok child) NotStarted = []
end_of (Ok child) NotWaited = []
end_of (Ok child) NoMemory = []
end_of (Err why) end = []

-- 1 for a child that was not started or not waited for
abbrev pub failure : ChildEnd → ℕ
failure (Ended status) = 0
failure NotStarted = 1
failure NotWaited = 1
failure NoMemory = 0
