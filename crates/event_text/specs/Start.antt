-- What the bytes of a file of starting values say.
use Rattle.std.specs.Prelude.{◌≡◌, ℕ, ◌<◌, ◌≤◌, ℤ, List, [], ◌∷◌, length}
use Rattle.std.specs.Prelude.{Result, Ok, Err, ⊤}
use Rattle.std.specs.String.{string_bytes}
use Rattle.js_base.specs.declared.limits.TheConstants.{SCRIPT_BYTES}
use Rattle.jif_tree.specs.declared.program.Field.{Field}
use Rattle.event_text.specs.declared.script.EventsError.{EventsError}
use Rattle.event_text.specs.declared.script.EventsError.TheVariants as error
use Rattle.event_text.specs.Lines.{LineShape, said_lines}
use Rattle.event_text.specs.Settings.{FieldForm, settings_in_front, past_settings, starting_rows, after_settings}

-- what scripts know of a field of a program
abbrev pub program_form : Field → FieldForm
program_form field =
    record { name = string_bytes field.name; size = field.size; array = field.array; first = field.first }

-- every line sets something; or the first line that does not
abbrev pub start_where_left : List (List ℤ) → List LineShape → Result (List (List ℤ)) ℕ
start_where_left start [] = Ok start
start_where_left start (line ∷ others) = Err line.number

abbrev pub start_of_lines : List FieldForm → List LineShape → Result (List (List ℤ)) ℕ
start_of_lines fields said =
    start_where_left (after_settings (starting_rows fields) (settings_in_front fields said)) (past_settings fields said)

-- the elements that each field starts with, or the first line that has no form
abbrev pub start_of : List FieldForm → List ℕ → Result (List (List ℤ)) ℕ
start_of fields bytes = start_of_lines fields (said_lines bytes)

-- how reading starting values may fail
abbrev pub StartFails : List FieldForm → List ℕ → EventsError → Type 0
StartFails fields bytes error.OutOfMemory = ⊤
StartFails fields bytes error.TooLong = SCRIPT_BYTES < length bytes
StartFails fields bytes (error.BadLine n) = (length bytes ≤ SCRIPT_BYTES) × (start_of fields bytes ≡ Err n)
