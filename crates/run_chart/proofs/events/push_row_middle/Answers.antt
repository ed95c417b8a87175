use Rattle.std.specs.String.{string_bytes}
use Rattle.run_chart.specs.Events.{is_from_left, middle_of, row_middle, stack_of, told_of}
use Rattle.run_chart.specs.Grids.{grid_shape}
use Rattle.run_chart.specs.Rows.{own_host}
use Rattle.run_chart.specs.Sheets.{chart_row_shape, chart_sheet_shape}
use Rattle.run_chart.proofs.Walks.{two_pieces}
use Rattle.run_chart.proofs.events.push_row_middle.Goals as goal

pub returns : goal.returns
unfolding row_middle
returns c =
    let sheet = chart_sheet_shape c.args.sheet.now in
    let grid = grid_shape c.args.grid.now in
    let row = chart_row_shape c.args.row.now in
    let place = c.args.place.now in
    two_pieces (string_bytes c.args.text.now) (told_of sheet grid (own_host row.event) place row.told)
    (stack_of (middle_of grid (own_host row.event)) place.line (is_from_left row.event) row.stack) _ _
    (rw c.own_host-own.ensures at c.in_ok-push_told_of.ensures)
    (rw (c.middle_of.ensures, c.own_host-own.ensures, c.is_from_left-right.ensures) at c.in_ok-push_stack_of.ensures)
