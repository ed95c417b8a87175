-- The stages of a command, one after the other. A stage gives a value to the next, or stops the command with what is
-- then due.
use Rattle.std.specs.Prelude.{◌≡◌, ◌⊎◌}
use Rattle.front_end.specs.Verdicts.{VerdictShape}

-- what a stage ends with
pub data StageEnd (X : Type 0) : Type 0 where
  given : X → StageEnd X
  stopped : VerdictShape → StageEnd X

-- a stage, and then another with what the first gave
abbrev pub Then : {X Y : Type 0} → (StageEnd X → Type 0) → (X → StageEnd Y → Type 0) → StageEnd Y → Type 0
Then {X} First Next end =
    ((x : X) × First (given x) × Next x end)
    ⊎ ((verdict : VerdictShape) × First (stopped verdict) × (end ≡ stopped verdict))

-- a stage, and then what is due for what it gave
abbrev pub DueThen : {X : Type 0} → (StageEnd X → Type 0) → (X → VerdictShape → Type 0) → VerdictShape → Type 0
DueThen {X} First Last verdict = ((x : X) × First (given x) × Last x verdict) ⊎ First (stopped verdict)
