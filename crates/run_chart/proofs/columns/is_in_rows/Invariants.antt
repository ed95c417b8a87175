use Rattle.std.proofs.Common.{◌≡◌, drop, map}
use Rattle.std.specs.List.{list_any}
use Rattle.run_chart.specs.Columns.{is_in_row}
use Rattle.run_chart.specs.Sheets.{chart_row_shape}
use Rattle.run_chart.proofs.columns.is_in_rows.Given as goal

abbrev pub invariant-loop-row : goal.invariant-loop-row
invariant-loop-row l =
    list_any (is_in_row l.number) (map chart_row_shape (drop l.row-index l.rows))
    ≡ list_any (is_in_row l.number) (map chart_row_shape l.rows)
