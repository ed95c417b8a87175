use Rattle.std.specs.String.{string_bytes}
use Rattle.run_chart.specs.Chart.{behind_text, chart_on, foot_part, front_text}
use Rattle.run_chart.specs.Events.{rows_text}
use Rattle.run_chart.specs.Grids.{grid_shape}
use Rattle.run_chart.specs.Sheets.{chart_sheet_shape}
use Rattle.run_chart.proofs.Walks.{four_pieces}
use Rattle.run_chart.proofs.chart.push_on.Goals as goal

pub returns : goal.returns
unfolding chart_on
returns c =
    let sheet = chart_sheet_shape c.args.sheet.now in
    let grid = grid_shape c.args.grid.now in
    let frame = c.args.frame.now in
    four_pieces (string_bytes c.args.text.now) (front_text sheet frame c.args.signs.now) (behind_text sheet grid frame)
    (rows_text sheet grid 0 sheet.rows) (foot_part sheet grid frame) _ _ _ _ c.in_ok-push_front.ensures
    c.in_ok-push_behind.ensures (rw c.deref.ensures.value at c.in_ok-push_rows.ensures)
    c.in_ok-push_foot_part.ensures
