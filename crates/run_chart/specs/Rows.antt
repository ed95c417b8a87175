-- The rows of a chart: one for each event, from top to bottom. All lengths are in pixels.
use Rattle.std.specs.Prelude.{ℕ, ◌+◌, Bool, true, false, List, [], ◌∷◌, Option, Some, None, slice_get, unwrap_or}
use Rattle.js_base.specs.declared.ids.HostId.{HostId}
use Rattle.run_chart.specs.Sheets.{ChartRowShape, ChartToldShape}
use Rattle.run_chart.specs.declared.rows.ChartPlace.{ChartPlace}
use Rattle.run_chart.specs.declared.sheet.ChartEvent.{ChartEvent}
use Rattle.run_chart.specs.declared.sheet.ChartEvent.TheVariants as event

-- the host whose event it is
abbrev pub own_host : ChartEvent → HostId
own_host (event.Turn host) = host
own_host (event.Take from to stroke start) = to
own_host (event.Act from to) = to

abbrev pub is_turn : ChartEvent → Bool
is_turn (event.Turn host) = true
is_turn (event.Take from to stroke start) = false
is_turn (event.Act from to) = false

-- ---- heights

abbrev pub event_height : ChartEvent → ℕ
event_height (event.Turn host) = 20
event_height (event.Take from to stroke start) = 24
event_height (event.Act from to) = 24

-- what a misbehaving host is sent has a line of its own
abbrev pub told_height : Option ChartToldShape → ℕ
told_height None = 0
told_height (Some told) = 24

abbrev pub height_of : ChartRowShape → ℕ
height_of row = event_height row.event + told_height row.told

-- how far below its begin a row has the line of its event, and the begin of what is sent in it
abbrev pub line_in : ChartEvent → ℕ
line_in (event.Turn host) = 12
line_in (event.Take from to stroke start) = 16
line_in (event.Act from to) = 16

abbrev pub begin_in : ChartEvent → ℕ
begin_in (event.Turn host) = 12
begin_in (event.Take from to stroke start) = 21
begin_in (event.Act from to) = 21

-- ---- where they are

abbrev pub place_of : (start : ℕ) → ChartRowShape → ChartPlace
place_of start row = record {
  start = start;
  line = start + line_in row.event;
  begin = start + begin_in row.event;
  end = start + height_of row;
}

-- the places of these rows, of which the first begins here, and what is behind the last one
abbrev pub places_from : ℕ → List ChartRowShape → List ChartPlace
places_from start [] = []
places_from start (row ∷ rows) = place_of start row ∷ places_from (start + height_of row) rows

abbrev pub past_of : ℕ → List ChartRowShape → ℕ
past_of start [] = start
past_of start (row ∷ rows) = past_of (start + height_of row) rows

abbrev pub no_place : ChartPlace
no_place = record { start = 0; line = 0; begin = 0; end = 0 }

-- that of the row of a number
abbrev pub place_at : List ChartPlace → ℕ → ChartPlace
place_at places number = unwrap_or (slice_get places number) no_place
