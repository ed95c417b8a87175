use Rattle.std.proofs.Common.{◌≡◌, ◌++◌, drop, map}
use Rattle.run_chart.specs.Sheets.{chart_row_shape}
use Rattle.run_sheet.specs.ChartRows.{chart_rows, first_tracks, track_shapes}
use Rattle.run_sheet.specs.RunSources.{run_source_shape}
use Rattle.run_sheet.proofs.rows.chart_rows.Given as goal

-- the rows so far, and those of the events that are left, are all
abbrev pub invariant-loop-row : goal.invariant-loop-row
invariant-loop-row l =
    map chart_row_shape l.rows.items
    ++ chart_rows (run_source_shape l.source) l.lanes (track_shapes l.tracks.items)
    (drop l.row-index l.source.rows.now)
    ≡ chart_rows (run_source_shape l.source) l.lanes (first_tracks l.source.code.now) l.source.rows.now
