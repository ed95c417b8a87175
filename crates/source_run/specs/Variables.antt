-- The variables of a frame as they are read.
use Rattle.std.specs.Prelude.{List, ◌++◌}
use Rattle.source_run.specs.declared.cells.Cell.{Cell}
use Rattle.source_run.specs.declared.frames.Variables.{Variables}
use Rattle.source_run.specs.Windows.{own_cells}

abbrev pub cells_read : Variables → List Cell
cells_read variables = own_cells variables.first variables.own.now ++ variables.others.now
