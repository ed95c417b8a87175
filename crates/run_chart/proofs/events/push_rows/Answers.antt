use Rattle.std.proofs.Common.{ℕ, refl}
use Rattle.run_chart.specs.Events.{row_text, rows_text}
use Rattle.run_chart.specs.Grids.{grid_shape}
use Rattle.run_chart.specs.Rows.{place_at}
use Rattle.run_chart.specs.Sheets.{ChartRowShape, chart_row_shape, chart_sheet_shape}
use Rattle.run_chart.proofs.Walks.{shape_written}
use Rattle.run_chart.proofs.events.push_rows.Goals as goal

pub loop-number-preserved : goal.loop-number-preserved
loop-number-preserved c =
    let sheet = chart_sheet_shape c.args.sheet.now in
    let grid = grid_shape c.args.grid.now in
    shape_written chart_row_shape (rows_text sheet grid)
    (λ (n : ℕ) (row : ChartRowShape). row_text sheet grid (place_at c.args.grid.now.places.now n) row)
    (λ n y ys. refl) c.args.rows.now c.loop-number.number _ c.index-rows-number.result _ _ _
    c.loop-number-test.true c.index-rows-number.is c.loop-number.invariant
    (rw c.place_at-place.ensures at c.in_ok-push_row.ensures)
