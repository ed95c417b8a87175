-- For a program, a host file and a script something is due, whatever they hold.
use Rattle.std.proofs.Common.{◌≡◌, ℕ, List, refl}
use Rattle.js_base.specs.declared.status.Status.TheVariants.{Done}
use Rattle.event_text.specs.declared.event.Event.{Event}
use Rattle.event_text.specs.Script.{ScriptShape}
use Rattle.front_end.specs.PlacedCode.{code_of}
use Rattle.front_end.specs.PlacedSources.{PlacedSource, PlacedSources}
use Rattle.front_end.specs.Stages.{given, stopped}
use Rattle.front_end.specs.Verdicts.{Print}
use Rattle.front_end.proofs.SomeStages.{HasOutcome, HasVerdict, some_due}
use Rattle.net_world.specs.World.{WorldShape}
use Rattle.run_rows.specs.Rows.{first_moment}
use Rattle.script_stages.specs.FirstWorld.{first_world}
use Rattle.script_stages.specs.Scripts.{EventsHappen, ScriptRead, event_refused, happened}
use Rattle.script_stages.specs.Scripts as scripts
use Rattle.script_stages.proofs.SomeScript.{SomeScript, SomeStep, events_some, script_some}
use Rattle.run_picture.specs.RunCharts.{source_of, text_of}
use Rattle.run_picture.specs.RunDue.{DueForChart, DueForChartOfEvents, DueForChartOfScript, EventsDrawn, drawn, refused}
use Rattle.run_picture.proofs.SomeRows.{SomeWhy, some_rows}

-- what happens is drawn
drawn_where : SomeWhy → (file : List ℕ) (placed : PlacedSource) (world : WorldShape) (said : List (ℕ × Event)) →
    HasOutcome (EventsHappen file (code_of placed) world said) → HasOutcome (EventsDrawn file placed world said)
drawn_where whys file placed world said (_, happened last ran) =
    let found = some_rows whys (code_of placed) (first_moment world) said last ran in
    (given (text_of (source_of placed world found.0 found.1)), drawn found.0 found.1 found.2)
drawn_where whys file placed world said (_, scripts.refused at why stops) =
    (stopped (event_refused file at why), refused at why stops)

-- ---- what is due

said_some : SomeWhy → SomeStep → (file : List ℕ) (placed : PlacedSource) (said : ScriptShape) →
    HasVerdict (DueForChartOfEvents file placed said)
said_some whys steps file placed said =
    let world = first_world placed said.bad said.start in
    some_due (EventsDrawn file placed world said.events) (λ text verdict. verdict ≡ Print Done text)
    (drawn_where whys file placed world said.events
    (events_some steps file (code_of placed) world said.events))
    (λ text was. (Print Done text, refl))

script_due : SomeWhy → SomeStep → SomeScript → (file script : List ℕ) (placed : PlacedSource) →
    HasVerdict (DueForChartOfScript file script placed)
script_due whys steps texts file script placed =
    some_due (ScriptRead file script (code_of placed)) (DueForChartOfEvents file placed)
    (script_some texts file script (code_of placed)) (λ said was. said_some whys steps file placed said)

-- a program and a host file have some plan, or are refused
abbrev pub SomePlan : Type 0
SomePlan = (program hosts : List ℕ) → HasOutcome (PlacedSources program hosts)

pub run_some : SomeWhy → SomeStep → SomeScript → SomePlan → (file program hosts script : List ℕ) →
    HasVerdict (DueForChart file program hosts script)
run_some whys steps texts plans file program hosts script =
    some_due (PlacedSources program hosts) (DueForChartOfScript file script) (plans program hosts)
    (λ placed was. script_due whys steps texts file script placed)
