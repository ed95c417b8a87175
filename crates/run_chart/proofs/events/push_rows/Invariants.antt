use Rattle.std.proofs.Common.{◌≡◌, ◌++◌, drop, map}
use Rattle.std.specs.String.{string_bytes}
use Rattle.run_chart.specs.Events.{rows_text}
use Rattle.run_chart.specs.Grids.{grid_shape}
use Rattle.run_chart.specs.Sheets.{chart_row_shape, chart_sheet_shape}
use Rattle.run_chart.proofs.events.push_rows.Given as goal

-- what was written, and the rows that are left, are all of them
abbrev pub invariant-loop-number : goal.invariant-loop-number
invariant-loop-number l =
    string_bytes l.text
    ++ rows_text (chart_sheet_shape l.sheet) (grid_shape l.grid) l.number
    (map chart_row_shape (drop l.number l.rows))
    ≡ string_bytes l.initial.text
    ++ rows_text (chart_sheet_shape l.sheet) (grid_shape l.grid) 0 (map chart_row_shape l.rows)
