use Rattle.std.proofs.Common.{◌+◌}
use Rattle.std.specs.String.{string_bytes}
use Rattle.run_chart.specs.Arrows.{told_arrow}
use Rattle.run_chart.specs.Columns.{name_of}
use Rattle.run_chart.specs.Events.{drawn_told, middle_of, seen_text}
use Rattle.run_chart.specs.Grids.{grid_shape}
use Rattle.run_chart.specs.Sheets.{chart_sheet_shape, chart_told_shape}
use Rattle.run_chart.proofs.Walks.{two_pieces}
use Rattle.run_chart.proofs.events.push_told.Goals as goal

pub returns : goal.returns
returns c =
    let sheet = chart_sheet_shape c.args.sheet.now in
    let told = c.args.told.now in
    two_pieces (string_bytes c.args.text.now)
    (drawn_told (name_of sheet c.args.own) (name_of sheet told.to) (chart_told_shape told)
    (told_arrow c.args.grid.now.columns.now c.args.own told.to c.args.place.now))
    (seen_text (middle_of (grid_shape c.args.grid.now) told.to) (c.args.place.now.line + 24) told.number) _ _
    (rw (c.told_arrow-arrow.ensures, c.name_of-from.ensures, c.name_of-to.ensures) at c.in_ok-push_told_arrow.ensures)
    (rw c.middle_of-x.ensures at c.in_ok-push_seen.ensures)
