-- What a host keeps of fields and of variables, as two maps.
--
-- Variables are read through one function. The store of a host keeps cells in the order of call sites, then of calls,
-- then of variables, and finds one by halving. Contracts read them by `variable_of` and `is_set`, which goes over the
-- cells from the front, so that another form can stand under the same contract. A table with hashes would move no cells
-- where one is added, but it takes memory when it pleases, and a host makes all room before a step.
use Rattle.std.specs.Prelude.{ℕ, ◌+◌, ◌==◌, ◌&&◌, ◌||◌, Bool, false, if◌then◌else◌, ℤ, pos, List, []}
use Rattle.std.specs.Prelude.{◌∷◌}
use Rattle.js_base.specs.declared.ids.HostId.{HostId}
use Rattle.js_base.specs.declared.ids.FrameId.{FrameId}
use Rattle.js_base.specs.declared.ids.VarId.{VarId}
use Rattle.jif_tree.specs.Store.{row_of}
use Rattle.host_code.specs.Code.{CodeFieldShape}
use Rattle.host_stores.specs.declared.variables.VarCell.{VarCell}

-- A row of elements for each field of the code, which is empty where the field is on another host; a cell for each
-- variable of a frame that was set, in their order; and for how many more variables there is room.
pub record StoresShape : Type 0 where
  pub rows : List (List ℤ)
  pub cells : List VarCell
  pub spare : ℕ

-- ---- fields

-- the row that the host has for a field of this number: that of the store where the field is on the host
abbrev pub own_row : HostId → List (List ℤ) → ℕ → CodeFieldShape → List ℤ
own_row me store number field = if field.host.0 == me.0 then row_of store number else []

-- the rows for the fields from a number on
abbrev pub own_rows : HostId → List (List ℤ) → ℕ → List CodeFieldShape → List (List ℤ)
own_rows me store number [] = []
own_rows me store number (field ∷ fields) = own_row me store number field ∷ own_rows me store (number + 1) fields

-- ---- variables

-- whether two variables of two frames are one
abbrev pub is_same_variable : FrameId → VarId → FrameId → VarId → Bool
is_same_variable frame variable other another =
    (frame.site.0 == other.site.0 && frame.count == other.count) && variable.0 == another.0

-- the variables after one was set
abbrev pub with_variable : (FrameId → VarId → ℤ) → FrameId → VarId → ℤ → FrameId → VarId → ℤ
with_variable variables frame variable value other another =
    if is_same_variable frame variable other another then value else variables other another

-- the value in the first cell of the variable, 0 where there is none
abbrev pub value_in : List VarCell → FrameId → VarId → ℤ
value_in [] frame variable = pos 0
value_in (cell ∷ cells) frame variable =
    if is_same_variable cell.frame cell.var frame variable then cell.value else value_in cells frame variable

-- whether a variable has a cell
abbrev pub is_set : List VarCell → FrameId → VarId → Bool
is_set [] frame variable = false
is_set (cell ∷ cells) frame variable =
    is_same_variable cell.frame cell.var frame variable || is_set cells frame variable

-- the value of a variable of a frame, 0 where none was set
abbrev pub variable_of : StoresShape → FrameId → VarId → ℤ
variable_of stores = value_in stores.cells
