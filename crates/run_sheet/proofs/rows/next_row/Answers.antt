use Rattle.std.proofs.Common.{◌≤◌, ap, arith, length, sym, subst, ◌∙◌}
use Rattle.std.proofs.lemmas.Result.{IfOk-weaker, on_ok_weaker}
use Rattle.js_base.specs.declared.ids.HostId.{HostId}
use Rattle.run_sheet.specs.ChartRows.{TrackShape, chart_row}
use Rattle.run_sheet.specs.RunEvents.{host_moved}
use Rattle.run_sheet.specs.RunSources.{run_source_shape}
use Rattle.run_sheet.proofs.TrackLists.{track_missing, tracks_followed}
use Rattle.run_sheet.proofs.rows.next_row.Goals as goal

pub returns-then-place-len-clause-tracks : goal.returns-then-place-len-clause-tracks
returns-then-place-len-clause-tracks c =
    on_ok_weaker c.host_row.result
    (λ follows. tracks_followed c.args.source.now.code.now c.args.tracks.now.items c.args.row.now
    c.host_moved-place.result c.index_mut-track.result.now c.host_row.new.track c.host_moved-place.ensures
    (omega (arith, c.if-place-len.true, c.len.ensures)) c.index_mut-track.ensures.value follows)
    c.host_row.ensures.track

pub returns-clause-row : goal.returns-clause-row
returns-clause-row c =
    let tracks = c.args.tracks.now.items in
    let row = c.args.row.now in
    let past : length tracks ≤ (host_moved row.what).0 =
    subst (λ (host : HostId). length tracks ≤ host.0) c.host_moved-place.ensures
    (omega (arith, c.if-place-len.false, c.len.ensures)) in
    IfOk-weaker c.host_row-2.result _ _
    (λ found is. is
    ∙ ap (λ (track : TrackShape). chart_row (run_source_shape c.args.source.now) c.args.lanes.now track row)
    (c.no_track-track.ensures ∙ sym (track_missing tracks (host_moved row.what) past))) c.host_row-2.ensures.row
