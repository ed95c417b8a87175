use Rattle.std.proofs.Common.{◌≡◌, drop}
use Rattle.source_run.specs.Cells.{value_in}
use Rattle.source_run.proofs.cells.value_in.Given as goal

-- the cells that are left have the value
abbrev pub invariant-loop-cell : goal.invariant-loop-cell
invariant-loop-cell l = value_in (drop l.cell-index l.cells) l.var.0 ≡ value_in l.cells l.var.0
