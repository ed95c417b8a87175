-- Numbers of steps, events or turns, and how their digits begin.
use Rattle.std.specs.Prelude.{ℕ, ◌≤◌, List, slice_index}
use Rattle.front_end.specs.declared.step_counts.TheConstants.{STEPS}

-- a number of steps, events or turns that can be asked for
pub record IsStepCount (steps : ℕ) : Type 0 where
  pub least : 1 ≤ steps
  pub most : steps ≤ STEPS

-- bytes begin with a decimal digit other than 0
pub record BeginsWithCount (bytes : List ℕ) : Type 0 where
  pub least : 49 ≤ slice_index bytes 0
  pub most : slice_index bytes 0 ≤ 57
