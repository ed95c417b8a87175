use Rattle.std.proofs.Common.{◌≡◌, drop, map}
use Rattle.std.specs.List.{list_any}
use Rattle.run_chart.specs.Legend.{tells}
use Rattle.run_chart.specs.Sheets.{chart_row_shape}
use Rattle.run_chart.proofs.legend.some_told.Given as goal

abbrev pub invariant-loop-row : goal.invariant-loop-row
invariant-loop-row l =
    list_any tells (map chart_row_shape (drop l.row-index l.rows))
    ≡ list_any tells (map chart_row_shape l.rows)
