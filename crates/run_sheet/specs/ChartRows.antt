-- The rows of a chart. From row to row it is followed for each host which entries are on its control stack, and of
-- which statement it made the last step.
use Rattle.std.specs.Prelude.{ℕ, List, [], ◌∷◌, map, Option, None, reverse, slice_get, slice_set, unwrap_or}
use Rattle.host_code.specs.Code.{CodeShape, instruction_at}
use Rattle.js_base.specs.declared.ids.EntryId.{EntryId}
use Rattle.js_base.specs.declared.ids.HostId.{HostId}
use Rattle.js_base.specs.declared.ids.StmtId.{StmtId}
use Rattle.run_chart.specs.Sheets.{ChartRowShape}
use Rattle.run_chart.specs.declared.sheet.ChartEvent.{ChartEvent}
use Rattle.run_chart.specs.declared.sheet.ChartEvent.TheVariants as shown
use Rattle.run_rows.specs.Stacks.{first_stack}
use Rattle.run_rows.specs.declared.row.Row.{Row}
use Rattle.run_rows.specs.declared.row.What.{What}
use Rattle.run_rows.specs.declared.row.What.TheVariants as what
use Rattle.run_sheet.specs.ChartStrokes.{message_stroke}
use Rattle.run_sheet.specs.RunEvents.{event_words, host_moved, ignored_words, told_by}
use Rattle.run_sheet.specs.RunSources.{RunSourceShape, hosts_in}
use Rattle.run_sheet.specs.SendLanes.{sent_start}
use Rattle.run_sheet.specs.StackNotes.{stack_behind, stack_note}
use Rattle.run_sheet.specs.StatementNotes.{statement_behind, statement_stepped, turn_note}
use Rattle.run_sheet.specs.declared.tracks.HostTrack.{HostTrack}

-- ---- what is followed of a host

-- the entries on its control stack, the top first, and the statement of its last step
pub record TrackShape : Type 0 where
  pub stack : List EntryId
  pub stepped : Option StmtId

abbrev pub first_track : CodeShape → HostId → TrackShape
first_track code host = record { stack = first_stack code host; stepped = None }

abbrev pub first_tracks : CodeShape → List TrackShape
first_tracks code = map (first_track code) (hosts_in code)

-- the statement of which an event was a step
abbrev pub stepped_in : CodeShape → What → Option StmtId
stepped_in code (what.Turn host at) = statement_stepped (instruction_at code host at)
stepped_in code other = None

abbrev pub track_behind : CodeShape → TrackShape → Row → TrackShape
track_behind code track row = record {
  stack = stack_behind row.change track.stack;
  stepped = statement_behind track.stepped (stepped_in code row.what);
}

-- nothing is known of a host that is none of the code's
abbrev pub no_track : TrackShape
no_track = record { stack = []; stepped = None }

abbrev pub track_at : List TrackShape → HostId → TrackShape
track_at tracks host = unwrap_or (slice_get tracks host.0) no_track

abbrev pub tracks_behind : CodeShape → List TrackShape → Row → List TrackShape
tracks_behind code tracks row =
    slice_set tracks (host_moved row.what).0 (track_behind code (track_at tracks (host_moved row.what)) row)

-- ---- rows

abbrev pub chart_event : (lanes : List ℕ) → Row → What → ChartEvent
chart_event lanes row (what.Turn host at) = shown.Turn host
chart_event lanes row (what.Take from to taken) =
    shown.Take from to (message_stroke taken) (sent_start lanes row.sent_by)
chart_event lanes row (what.Act from to made) = shown.Act from to

-- the row of an event, where this was followed of its host before
abbrev pub chart_row : RunSourceShape → (lanes : List ℕ) → TrackShape → Row → ChartRowShape
chart_row source lanes track row = record {
  line = row.line;
  event = chart_event lanes row row.what;
  text = event_words source.code row.what;
  note = turn_note source.texts source.lines track.stepped (stepped_in source.code row.what);
  ignored = ignored_words source.code row.what row.ignored;
  told = told_by source.code source.world.sent row.told;
  stack = stack_note source.code (host_moved row.what) (stack_behind row.change track.stack) row.change;
  halts = row.halts;
  runs = row.runs;
  waits = row.waits;
}

-- rows, where this was followed of the hosts before them
abbrev pub chart_rows : RunSourceShape → (lanes : List ℕ) → List TrackShape → List Row → List ChartRowShape
chart_rows source lanes tracks [] = []
chart_rows source lanes tracks (row ∷ rows) =
    chart_row source lanes (track_at tracks (host_moved row.what)) row
    ∷ chart_rows source lanes (tracks_behind source.code tracks row) rows

-- ---- in the program

abbrev pub track_shape : HostTrack → TrackShape
track_shape track = record { stack = reverse track.stack.items; stepped = track.stepped }

abbrev pub track_shapes : List HostTrack → List TrackShape
track_shapes tracks = map track_shape tracks
