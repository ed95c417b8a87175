-- The frames of the calls that have something left to do, by their places, from 0.
use Rattle.std.specs.Prelude.{ℕ, ℤ, List, [], slice_get, slice_set, Option, Some, None}
use Rattle.js_base.specs.declared.ids.VarId.{VarId}
use Rattle.source_run.specs.declared.cells.Cell.{Cell}
use Rattle.source_run.specs.declared.frames.Target.{Target}
use Rattle.source_run.specs.Cells.{with_cell}

-- the variables of a call, and where its method's result goes
pub record FrameShape : Type 0 where
  pub cells : List Cell
  pub returns : Option Target

abbrev pub cells_of : Option FrameShape → List Cell
cells_of None = []
cells_of (Some frame) = frame.cells

abbrev pub cells_at : List FrameShape → ℕ → List Cell
cells_at frames frame = cells_of (slice_get frames frame)

abbrev pub returns_of : Option FrameShape → Option Target
returns_of None = None
returns_of (Some frame) = frame.returns

abbrev pub returns_at : List FrameShape → ℕ → Option Target
returns_at frames frame = returns_of (slice_get frames frame)

-- the frames after a variable of one of them was set
abbrev pub with_variable : List FrameShape → ℕ → VarId → ℤ → List FrameShape
with_variable frames frame x value = set_in (slice_get frames frame)
  where
    set_in : Option FrameShape → List FrameShape
    set_in None = frames
    set_in (Some found) = slice_set frames frame (record found { cells = with_cell found.cells x value })
