use Rattle.std.proofs.Common.{List, None, ap}
use Rattle.js_base.specs.declared.ids.EntryId.{EntryId}
use Rattle.run_sheet.specs.ChartRows.{TrackShape, first_track, track_shape}
use Rattle.run_sheet.specs.declared.tracks.HostTrack.{HostTrack}
use Rattle.run_sheet.proofs.HostLists.{shape_added}
use Rattle.run_sheet.proofs.tracks.first_tracks.Goals as goal

abbrev with_stack : List EntryId → TrackShape
with_stack stack = record { stack = stack; stepped = None }

pub loop-number-preserved : goal.loop-number-preserved
loop-number-preserved c =
    let one : HostTrack = record { stack = c.in_ok-stack.stack; stepped = None } in
    shape_added track_shape (first_track c.args.code.now) c.loop-number.tracks.items c.push.new.self.items one
    c.loop-number.number c.loop-number.invariant c.in_ok-push.ensures.items (ap with_stack c.in_ok-stack.ensures)
