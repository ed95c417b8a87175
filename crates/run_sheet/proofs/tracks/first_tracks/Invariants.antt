use Rattle.std.proofs.Common.{◌≡◌, map}
use Rattle.run_sheet.specs.ChartRows.{first_track, track_shapes}
use Rattle.run_sheet.specs.RunSources.{hosts_below}
use Rattle.run_sheet.proofs.tracks.first_tracks.Given as goal

-- those of the hosts so far
abbrev pub invariant-loop-number : goal.invariant-loop-number
invariant-loop-number l = track_shapes l.tracks.items ≡ map (first_track l.code) (hosts_below l.number)
