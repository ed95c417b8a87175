use Rattle.std.proofs.Common.{◌+◌}
use Rattle.std.specs.String.{string_bytes}
use Rattle.run_chart.specs.Events.{cross_of, event_text, is_some, line_text, row_front}
use Rattle.run_chart.specs.Grids.{grid_shape}
use Rattle.run_chart.specs.Sheets.{chart_row_shape, chart_sheet_shape}
use Rattle.run_chart.proofs.Walks.{three_pieces}
use Rattle.run_chart.proofs.events.push_row_front.Goals as goal

pub returns : goal.returns
unfolding row_front
returns c =
    let sheet = chart_sheet_shape c.args.sheet.now in
    let grid = grid_shape c.args.grid.now in
    let row = chart_row_shape c.args.row.now in
    let line = c.args.place.now.line in
    three_pieces (string_bytes c.args.text.now) (line_text grid.lines (line + 4) row.line)
    (event_text sheet grid row.event row.text (is_some row.ignored) line) (cross_of grid row.event line row.ignored)
    _ _ _ c.in_ok-push_line.ensures
    (rw (c.is_ignored-ignored.ensures, c.as_str-what.ensures.value) at c.in_ok-push_event.ensures)
    c.in_ok-push_cross_of.ensures
