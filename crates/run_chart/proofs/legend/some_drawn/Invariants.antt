use Rattle.std.proofs.Common.{◌≡◌, drop, map}
use Rattle.std.specs.List.{list_any}
use Rattle.run_chart.specs.Legend.{draws_stroke}
use Rattle.run_chart.specs.Sheets.{chart_row_shape}
use Rattle.run_chart.proofs.legend.some_drawn.Given as goal

abbrev pub invariant-loop-row : goal.invariant-loop-row
invariant-loop-row l =
    list_any (draws_stroke l.one) (map chart_row_shape (drop l.row-index l.rows))
    ≡ list_any (draws_stroke l.one) (map chart_row_shape l.rows)
