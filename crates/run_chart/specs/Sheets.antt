-- What the chart of a run is drawn by. Texts are bytes.
use Rattle.std.specs.Prelude.{ℕ, Bool, List, Option, map, string_bytes}
use Rattle.std.specs.Option.{option_map}
use Rattle.js_base.specs.declared.ids.HostId.{HostId}
use Rattle.run_chart.specs.declared.sheet.ChartEvent.{ChartEvent}
use Rattle.run_chart.specs.declared.sheet.ChartField.{ChartField}
use Rattle.run_chart.specs.declared.sheet.ChartFlight.{ChartFlight}
use Rattle.run_chart.specs.declared.sheet.ChartHost.{ChartHost}
use Rattle.run_chart.specs.declared.sheet.ChartNote.{ChartNote}
use Rattle.run_chart.specs.declared.sheet.ChartRow.{ChartRow}
use Rattle.run_chart.specs.declared.sheet.ChartSheet.{ChartSheet}
use Rattle.run_chart.specs.declared.sheet.ChartTold.{ChartTold}
use Rattle.run_chart.specs.declared.sheet.Mark.{Mark}
use Rattle.run_chart.specs.declared.sheet.Start.{Start}
use Rattle.run_chart.specs.declared.sheet.Stroke.{Stroke}

-- a text beside an event, and the whole of it in a tip
pub record ChartNoteShape : Type 0 where
  pub text : List ℕ
  pub tip : List ℕ

-- what a misbehaving host was sent in an event, with its number among all that such hosts were sent
pub record ChartToldShape : Type 0 where
  pub number : ℕ
  pub to : HostId
  pub stroke : Stroke
  pub text : List ℕ

-- an event with its line in the script, the text of its instruction or message, the statement where it is worth a note,
-- why it was ignored, what a misbehaving host was sent, and what became of the host's control stack and threads
pub record ChartRowShape : Type 0 where
  pub line : ℕ
  pub event : ChartEvent
  pub text : List ℕ
  pub note : Option ChartNoteShape
  pub ignored : Option (List ℕ)
  pub told : Option ChartToldShape
  pub stack : Option ChartNoteShape
  pub halts : Bool
  pub runs : Bool
  pub waits : Bool

-- a message that is in flight at the end
pub record ChartFlightShape : Type 0 where
  pub from : HostId
  pub to : HostId
  pub stroke : Stroke
  pub start : Start
  pub text : List ℕ

-- a field at the end, with who may affect it
pub record ChartFieldShape : Type 0 where
  pub text : List ℕ
  pub mark : Mark
  pub who : List ℕ

pub record ChartHostShape : Type 0 where
  pub name : List ℕ
  pub label : List ℕ
  pub misbehaves : Bool
  pub runs : Bool
  pub fields : List ChartFieldShape

pub record ChartSheetShape : Type 0 where
  pub hosts : List ChartHostShape
  pub root : HostId
  pub rows : List ChartRowShape
  pub flights : List ChartFlightShape
  pub halted : Bool

-- ---- in the program

abbrev pub chart_note_shape : ChartNote → ChartNoteShape
chart_note_shape note = record { text = string_bytes note.text; tip = string_bytes note.tip }

abbrev pub chart_told_shape : ChartTold → ChartToldShape
chart_told_shape told = record {
  number = told.number;
  to = told.to;
  stroke = told.stroke;
  text = string_bytes told.text;
}

abbrev pub chart_row_shape : ChartRow → ChartRowShape
chart_row_shape row = record {
  line = row.line;
  event = row.event;
  text = string_bytes row.text;
  note = option_map chart_note_shape row.note;
  ignored = option_map string_bytes row.ignored;
  told = option_map chart_told_shape row.told;
  stack = option_map chart_note_shape row.stack;
  halts = row.halts;
  runs = row.runs;
  waits = row.waits;
}

abbrev pub chart_flight_shape : ChartFlight → ChartFlightShape
chart_flight_shape flight = record {
  from = flight.from;
  to = flight.to;
  stroke = flight.stroke;
  start = flight.start;
  text = string_bytes flight.text;
}

abbrev pub chart_field_shape : ChartField → ChartFieldShape
chart_field_shape field = record { text = string_bytes field.text; mark = field.mark; who = string_bytes field.who }

abbrev pub chart_host_shape : ChartHost → ChartHostShape
chart_host_shape host = record {
  name = string_bytes host.name;
  label = string_bytes host.label;
  misbehaves = host.misbehaves;
  runs = host.runs;
  fields = map chart_field_shape host.fields.items;
}

abbrev pub chart_sheet_shape : ChartSheet → ChartSheetShape
chart_sheet_shape sheet = record {
  hosts = map chart_host_shape sheet.hosts.items;
  root = sheet.root;
  rows = map chart_row_shape sheet.rows.items;
  flights = map chart_flight_shape sheet.flights.items;
  halted = sheet.halted;
}
