-- The order in which the variables of frames are kept.
--
-- The variables of a host are lent as one sorted slice. So a new one moves those behind it, in one piece. A deep
-- recursion therefore moves memory in proportion to the square of its depth, and no form that lends such a slice at any
-- moment spares that.
use Rattle.std.specs.Prelude.{◌≡◌, ◌<◌, ◌≤◌, ℕ, List, [], ◌∷◌, ⊤, length, slice_get, Some, Result, Ok, Err, IsSomeAnd}
use Rattle.std.specs.List.{AllByRecursion}
use Rattle.std.specs.Ordering.{ordering_then, nat_cmp}
use Rattle.std.specs.declared.cmp.Ordering.{Ordering}
use Rattle.std.specs.declared.cmp.Ordering.TheVariants.{Less, Equal, Greater}
use Rattle.js_base.specs.declared.ids.FrameId.{FrameId}
use Rattle.js_base.specs.declared.ids.VarId.{VarId}
use Rattle.host_stores.specs.declared.variables.VarCell.{VarCell}

-- by the sites of the frames, then by their counts, then by the variables
abbrev pub variable_order : FrameId → VarId → FrameId → VarId → Ordering
variable_order frame variable other another =
    ordering_then (ordering_then (nat_cmp frame.site.0 other.site.0) (nat_cmp frame.count other.count))
    (nat_cmp variable.0 another.0)

abbrev pub cell_order : FrameId → VarId → VarCell → Ordering
cell_order frame variable cell = variable_order cell.frame cell.var frame variable

abbrev pub IsBefore : VarCell → VarCell → Type 0
IsBefore cell other = cell_order other.frame other.var cell ≡ Less

-- each cell is before all behind it
abbrev pub AreInOrder : List VarCell → Type 0
AreInOrder [] = ⊤
AreInOrder (cell ∷ cells) = AllByRecursion (IsBefore cell) cells × AreInOrder cells

-- the place of the cell of a variable, or the place behind all cells that are before it and before all others
abbrev pub IsPlaceOf : List VarCell → FrameId → VarId → Result ℕ ℕ → Type 0
IsPlaceOf cells frame variable (Ok place) =
    IsSomeAnd (slice_get cells place) (λ cell. cell_order frame variable cell ≡ Equal)
IsPlaceOf cells frame variable (Err place) = (place ≤ length cells)
    × ((k : ℕ) (cell : VarCell) → k < place → slice_get cells k ≡ Some cell → cell_order frame variable cell ≡ Less)
    × ((k : ℕ) (cell : VarCell) → place ≤ k → slice_get cells k ≡ Some cell → cell_order frame variable cell ≡ Greater)
