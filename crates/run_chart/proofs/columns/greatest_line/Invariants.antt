use Rattle.std.proofs.Common.{◌≡◌, drop, map}
use Rattle.run_chart.specs.Columns.{greatest_line}
use Rattle.run_chart.specs.Sheets.{chart_row_shape}
use Rattle.run_chart.proofs.columns.greatest_line.Given as goal

abbrev pub invariant-loop-row : goal.invariant-loop-row
invariant-loop-row l =
    greatest_line l.most (map chart_row_shape (drop l.row-index l.rows)) ≡ greatest_line 0 (map chart_row_shape l.rows)
