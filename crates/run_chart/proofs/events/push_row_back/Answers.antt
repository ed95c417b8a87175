use Rattle.std.specs.String.{string_bytes}
use Rattle.run_chart.specs.Columns.{name_of}
use Rattle.run_chart.specs.Events.{halt_of, middle_of, note_of, row_back}
use Rattle.run_chart.specs.Grids.{grid_shape}
use Rattle.run_chart.specs.Rows.{own_host}
use Rattle.run_chart.specs.Sheets.{chart_row_shape, chart_sheet_shape}
use Rattle.run_chart.proofs.Walks.{two_pieces}
use Rattle.run_chart.proofs.events.push_row_back.Goals as goal

pub returns : goal.returns
unfolding row_back
returns c =
    let sheet = chart_sheet_shape c.args.sheet.now in
    let grid = grid_shape c.args.grid.now in
    let row = chart_row_shape c.args.row.now in
    let line = c.args.place.now.line in
    two_pieces (string_bytes c.args.text.now)
    (halt_of (name_of sheet (own_host row.event)) (middle_of grid (own_host row.event)) line row.halts)
    (note_of grid.notes line row.ignored row.note) _ _
    (rw (c.name_of.ensures, c.middle_of-x.ensures, c.own_host-own.ensures) at c.in_ok-push_halt_of.ensures)
    c.in_ok-push_note_of.ensures
