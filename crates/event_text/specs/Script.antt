-- What the bytes of a script say: hosts that misbehave, starting values of fields, and then events.
--
-- A script is sections. It is defined by the settings that its lines begin with, and the lines from the first on that
-- is none, which have to be events. So a line that sets a value after an event is one that says no event, and no order
-- has to be stated. The settings stand over fields with names and sizes, so that a file of starting values shares them
-- with no code.
use Rattle.std.specs.Prelude.{◌≡◌, ℕ, ◌<◌, ◌≤◌, ℤ, List, map, length, Result, Ok, Err, ⊤}
use Rattle.js_base.specs.declared.limits.TheConstants.{SCRIPT_BYTES}
use Rattle.host_code.specs.Code.{CodeShape}
use Rattle.event_text.specs.declared.event.Event.{Event}
use Rattle.event_text.specs.declared.script.EventsError.{EventsError}
use Rattle.event_text.specs.declared.script.EventsError.TheVariants as error
use Rattle.event_text.specs.Events.{events_of}
use Rattle.event_text.specs.Lines.{LineShape, said_lines}
use Rattle.event_text.specs.Misbehaving.{bad_in_front, past_bad, with_hosts}
use Rattle.event_text.specs.Settings.{FieldForm, form_of, settings_in_front, past_settings, starting_rows}
use Rattle.event_text.specs.Settings.{after_settings}

-- The hosts that misbehave, as a word with a bit for each; the elements that each field starts with; and the events,
-- each with the number of its line.
pub record ScriptShape : Type 0 where
  pub bad : ℕ
  pub start : List (List ℤ)
  pub events : List (ℕ × Event)

abbrev pub with_start : ℕ → List (List ℤ) → Result (List (ℕ × Event)) ℕ → Result ScriptShape ℕ
with_start bad start (Ok events) = Ok (record { bad = bad; start = start; events = events })
with_start bad start (Err line) = Err line

-- what settings and then events say behind the lines that name misbehaving hosts
abbrev pub script_behind_bad : CodeShape → List FieldForm → ℕ → List LineShape → Result ScriptShape ℕ
script_behind_bad code fields bad said =
    with_start bad (after_settings (starting_rows fields) (settings_in_front fields said))
    (events_of code bad (past_settings fields said))

-- The hosts that misbehave, which the lines begin with, then settings, and then events; or the first line that has no
-- form or stands in another place.
abbrev pub script_of_lines : CodeShape → List FieldForm → List LineShape → Result ScriptShape ℕ
script_of_lines code fields said =
    script_behind_bad code fields (with_hosts 0 (bad_in_front code.hosts said)) (past_bad code.hosts said)

abbrev pub script_of : CodeShape → List ℕ → Result ScriptShape ℕ
script_of code bytes = script_of_lines code (map form_of code.fields) (said_lines bytes)

-- how reading the lines of events may fail
abbrev pub EventLinesFail : CodeShape → ℕ → List LineShape → EventsError → Type 0
EventLinesFail code bad said error.OutOfMemory = ⊤
EventLinesFail code bad said error.TooLong = ⊥
EventLinesFail code bad said (error.BadLine n) = events_of code bad said ≡ Err n

-- how reading a script may fail
abbrev pub EventsFail : CodeShape → List ℕ → EventsError → Type 0
EventsFail code bytes error.OutOfMemory = ⊤
EventsFail code bytes error.TooLong = SCRIPT_BYTES < length bytes
EventsFail code bytes (error.BadLine n) = (length bytes ≤ SCRIPT_BYTES) × (script_of code bytes ≡ Err n)
