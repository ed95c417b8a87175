-- What a chart says of the run that it shows.
use Rattle.std.specs.Prelude.{◌≡◌, ◌⊎◌, ℕ, ◌+◌, List, [], ◌∷◌, ◌++◌, codes, map, Option, Some, None}
use Rattle.std.specs.List.{filter_map}
use Rattle.entry_check.specs.Checks.{label_at, label_of_host}
use Rattle.event_text.specs.declared.event.Event.{Event}
use Rattle.event_text.specs.declared.event.Event.TheVariants.{Take, Turn, Act}
use Rattle.host_code.specs.Code.{CodeShape}
use Rattle.host_code.specs.MessageText.{entry_text}
use Rattle.ics_stack.specs.declared.stack.StackEntry.{StackEntry}
use Rattle.jif_tree.specs.Altered.{Exposure}
use Rattle.net_world.specs.Told.{SentMessage}
use Rattle.net_world.specs.World.{WorldShape}
use Rattle.run_chart.specs.Sheets.{ChartNoteShape, ChartToldShape}
use Rattle.run_chart.specs.declared.sheet.ChartEvent.{ChartEvent}
use Rattle.run_chart.specs.declared.sheet.ChartEvent.TheVariants as shown
use Rattle.run_chart.specs.declared.sheet.Start.{Start}
use Rattle.run_chart.specs.declared.sheet.Stroke.{Stroke}
use Rattle.run_sheet.specs.FieldMarks.{misbehaving_in}
use Rattle.run_sheet.specs.RunEvents.{told_letter}

-- a row shows an event of this kind and of these hosts
abbrev pub IsShownAs : Event → ChartEvent → Type 0
IsShownAs (Turn host) event = event ≡ shown.Turn host
IsShownAs (Take from to place) event = (stroke : Stroke) × (start : Start) × (event ≡ shown.Take from to stroke start)
IsShownAs (Act from to made) event = event ≡ shown.Act from to

-- one entry more is shown by `+` and its name, one less by `-` and its name, and a stack that stays by nothing
abbrev pub IsShownOnStack : (before after : List StackEntry) → Option ChartNoteShape → Type 0
IsShownOnStack before after None = after ≡ before
IsShownOnStack before after (Some note) =
    ((top : StackEntry) × (after ≡ top ∷ before) × (note.text ≡ codes "+" ++ entry_text top.entry))
    ⊎ ((top : StackEntry) × (before ≡ top ∷ after) × (note.text ≡ codes "-" ++ entry_text top.entry))

-- what misbehaving hosts were sent, from a number on
abbrev pub letters_told : CodeShape → ℕ → List SentMessage → List ChartToldShape
letters_told code number [] = []
letters_told code number (letter ∷ letters) = told_letter code number letter ∷ letters_told code (number + 1) letters

-- an exposure is to the hosts that misbehave, and has the labels of the code's fields
pub record IsExposedTo (code : CodeShape) (world : WorldShape) (exposure : Exposure) : Type 0 where
  pub bad : exposure.bad ≡ filter_map (label_of_host code) (misbehaving_in code world)
  pub fields : map (λ label. Some label) exposure.fields ≡ map (λ field. label_at code field.label) code.fields
