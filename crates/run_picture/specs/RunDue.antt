-- What is due for the picture of a run, by the bytes of a program, a host file and a script.
--
-- It is what is due for `replay` of the same bytes, but that the chart of the run is put in place of the report of its
-- last world.
use Rattle.std.specs.Prelude.{◌≡◌, ℕ, List}
use Rattle.js_base.specs.declared.status.Status.TheVariants.{Done}
use Rattle.event_text.specs.declared.event.Event.{Event}
use Rattle.event_text.specs.Script.{ScriptShape}
use Rattle.front_end.specs.PlacedCode.{code_of}
use Rattle.front_end.specs.PlacedSources.{PlacedSource, PlacedSources}
use Rattle.front_end.specs.Stages.{DueThen, StageEnd, given, stopped}
use Rattle.front_end.specs.Verdicts.{VerdictShape, Print}
use Rattle.net_world.specs.Replay.{IsRefusedAt}
use Rattle.net_world.specs.World.{WorldShape, EventRefusal}
use Rattle.run_rows.specs.Rows.{IsPictured, Moment, first_moment}
use Rattle.run_rows.specs.declared.row.Row.{Row}
use Rattle.script_stages.specs.FirstWorld.{first_world}
use Rattle.script_stages.specs.Scripts.{ScriptRead, event_refused}
use Rattle.run_picture.specs.RunCharts.{source_of, text_of}

-- events happen one after the other from a first world, and are drawn, or the first that is refused stops them
pub data EventsDrawn (file : List ℕ) (placed : PlacedSource) (first : WorldShape) (said : List (ℕ × Event)) :
    StageEnd (List ℕ) → Type 0 where
  drawn : (rows : List Row) (last : Moment) → IsPictured (code_of placed) (first_moment first) said rows last →
      EventsDrawn file placed first said (given (text_of (source_of placed first rows last)))
  refused : (at : ℕ × Event) (why : EventRefusal) → IsRefusedAt (code_of placed) first said at why →
      EventsDrawn file placed first said (stopped (event_refused file at why))

-- where this was read of the script
abbrev pub DueForChartOfEvents : List ℕ → PlacedSource → ScriptShape → VerdictShape → Type 0
DueForChartOfEvents file placed said =
    DueThen (EventsDrawn file placed (first_world placed said.bad said.start) said.events)
    (λ text verdict. verdict ≡ Print Done text)

abbrev pub DueForChartOfScript : List ℕ → List ℕ → PlacedSource → VerdictShape → Type 0
DueForChartOfScript file script placed =
    DueThen (ScriptRead file script (code_of placed)) (DueForChartOfEvents file placed)

-- what is due for a program, a host file, and a script in a file of this name
abbrev pub DueForChart : (file program hosts script : List ℕ) → VerdictShape → Type 0
DueForChart file program hosts script = DueThen (PlacedSources program hosts) (DueForChartOfScript file script)
