use Rattle.std.proofs.Common.{◌+◌, List, [], ◌∷◌, ◌∙◌, ap, drop, map, sym}
use Rattle.run_chart.specs.Sheets.{chart_row_shape}
use Rattle.run_sheet.specs.ChartRows.{TrackShape, chart_row, chart_rows, track_at, track_shapes}
use Rattle.run_sheet.specs.RunEvents.{host_moved}
use Rattle.run_sheet.specs.RunSources.{run_source_shape}
use Rattle.run_sheet.proofs.ListWalks.{left_cut, shaped, walked}
use Rattle.run_sheet.proofs.rows.chart_rows.Goals as goal

pub loop-row-preserved : goal.loop-row-preserved
loop-row-preserved c =
    let source = run_source_shape c.args.source.now in
    let lanes = c.args.lanes.now in
    let rows = c.args.source.now.rows.now in
    let at = c.loop-row.row-index in
    let row = c.row-item.result in
    let tracks = track_shapes c.loop-row.tracks.items in
    let next = track_shapes c.next_row.new.tracks.items in
    let one = chart_row source lanes (track_at tracks (host_moved row.what)) row in
    walked (map chart_row_shape c.loop-row.rows.items) (map chart_row_shape c.push.new.self.items) (one ∷ [])
    (chart_rows source lanes tracks (drop at rows)) (chart_rows source lanes next (drop (at + 1) rows)) _
    c.loop-row.invariant
    (ap (chart_rows source lanes tracks) (left_cut rows at row row c.loop-row-test.true c.row-item.is)
    ∙ ap (λ (ts : List TrackShape). one ∷ chart_rows source lanes ts (drop (at + 1) rows))
    (sym c.in_ok-made.ensures.tracks))
    (shaped chart_row_shape c.loop-row.rows.items c.push.new.self.items c.in_ok-made.made one
    c.in_ok-push.ensures.items c.in_ok-made.ensures.row)
