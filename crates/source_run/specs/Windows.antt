-- The variables of a frame that have a fixed place.
use Rattle.std.specs.Prelude.{ℕ, suc, ℤ, pos, List, [], ◌∷◌, Option, Some, None, slice_get, replicate}
use Rattle.js_base.specs.declared.ids.VarId.{VarId}
use Rattle.source_run.specs.declared.cells.Cell.{Cell}
use Rattle.source_run.specs.declared.windows.Window.{Window}
use Rattle.source_run.specs.Cells.{with_cell}

abbrev pub window_or_none : Option Window → Window
window_or_none None = record { first = 0; count = 0 }
window_or_none (Some window) = window

-- the window of a method
abbrev pub window_of : List Window → ℕ → Window
window_of windows method = window_or_none (slice_get windows method)

-- the cells of variables from a number on that have these values
abbrev pub own_cells : ℕ → List ℤ → List Cell
own_cells first [] = []
own_cells first (value ∷ values) =
    record { var = record { 0 = first }; value = value } ∷ own_cells (suc first) values

-- the cells of a window in which nothing was set
abbrev pub blank_cells : Window → List Cell
blank_cells window = own_cells window.first (replicate window.count (pos 0))

abbrev pub blank_of : List Window → ℕ → List Cell
blank_of windows method = blank_cells (window_of windows method)

-- the cells after parameters took the values of arguments, of which the first one counts where a parameter repeats
abbrev pub with_cells : List Cell → List VarId → List ℤ → List Cell
with_cells cells [] values = cells
with_cells cells (param ∷ params) [] = cells
with_cells cells (param ∷ params) (value ∷ values) = with_cell (with_cells cells params values) param value
