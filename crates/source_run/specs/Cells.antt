-- The variables of one call, as a list of cells.
use Rattle.std.specs.Prelude.{ℕ, suc, ◌==◌, if◌then◌else◌, ℤ, pos, List, [], ◌∷◌, Option, Some}
use Rattle.std.specs.Prelude.{None}
use Rattle.std.specs.Option.{option_map}
use Rattle.js_base.specs.declared.ids.VarId.{VarId}
use Rattle.source_run.specs.declared.cells.Cell.{Cell}

-- the value in the first cell of a variable, 0 where there is none
abbrev pub value_in : List Cell → ℕ → ℤ
value_in [] x = pos 0
value_in (cell ∷ cells) x = if cell.var.0 == x then cell.value else value_in cells x

-- the place of the first cell of a variable
abbrev pub place_in : List Cell → ℕ → Option ℕ
place_in [] x = None
place_in (cell ∷ cells) x = if cell.var.0 == x then Some 0 else option_map (λ place. suc place) (place_in cells x)

-- the cells after a variable was set
abbrev pub with_cell : List Cell → VarId → ℤ → List Cell
with_cell [] x value = record { var = x; value = value } ∷ []
with_cell (cell ∷ cells) x value =
    if cell.var.0 == x.0 then record { var = x; value = value } ∷ cells else cell ∷ with_cell cells x value
