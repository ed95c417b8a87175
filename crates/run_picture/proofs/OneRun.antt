-- For a program, a host file and a script one verdict is due.
use Rattle.std.proofs.Common.{◌≡◌, ◌∙◌, ℕ, List, ap, sym}
use Rattle.js_base.specs.declared.status.Status.TheVariants.{Done}
use Rattle.event_text.specs.declared.event.Event.{Event}
use Rattle.event_text.specs.Script.{ScriptShape}
use Rattle.front_end.specs.PlacedCode.{code_of}
use Rattle.front_end.specs.PlacedSources.{PlacedSource, PlacedSources}
use Rattle.front_end.specs.Verdicts.{VerdictShape, Print}
use Rattle.front_end.proofs.Stages.{IsOne, give, stop_with, one_due}
use Rattle.host_code.specs.Code.{CodeShape}
use Rattle.net_world.specs.Replay.{events_in}
use Rattle.net_world.specs.World.{WorldShape, IsRun, EventRefusal}
use Rattle.run_rows.specs.Rows.{IsPictured, Moment, first_moment}
use Rattle.run_rows.specs.declared.row.Row.{Row}
use Rattle.script_stages.specs.FirstWorld.{first_world}
use Rattle.script_stages.specs.Scripts.{ScriptRead, event_refused}
use Rattle.script_stages.proofs.OneScript.{StepLaws, ran_or_refused, refused_once, script_once}
use Rattle.run_picture.specs.RunCharts.{source_of, text_of}
use Rattle.run_picture.specs.RunDue.{DueForChart, DueForChartOfEvents, DueForChartOfScript, EventsDrawn, drawn, refused}

-- what is known of steps and of rows
pub record RunLaws : Type 0 where
  pub steps : StepLaws
  pub ran : (code : CodeShape) (at last : Moment) (said : List (ℕ × Event)) (rows : List Row) →
      IsPictured code at said rows last → IsRun code at.world (events_in said) last.world
  pub rows : (code : CodeShape) (at last ends : Moment) (said : List (ℕ × Event)) (rows others : List Row) →
      IsPictured code at said rows last → IsPictured code at said others ends → (rows ≡ others) × (last ≡ ends)

-- ---- stages

text_once : (placed : PlacedSource) (first : WorldShape) (rows others : List Row) (last ends : Moment) →
    (rows ≡ others) × (last ≡ ends) →
    text_of (source_of placed first rows last) ≡ text_of (source_of placed first others ends)
text_once placed first rows others last ends same =
    ap (λ (rs : List Row). text_of (source_of placed first rs last)) same.0
    ∙ ap (λ (m : Moment). text_of (source_of placed first others m)) same.1

pub drawn_once : RunLaws → (file : List ℕ) (placed : PlacedSource) (world : WorldShape) (said : List (ℕ × Event)) →
    IsOne (EventsDrawn file placed world said)
drawn_once laws file placed world said _ _ (drawn rows last is) (drawn others ends also) =
    ap give (text_once placed world rows others last ends
    (laws.rows (code_of placed) (first_moment world) last ends said rows others is also))
drawn_once laws file placed world said _ _ (drawn rows last is) (refused at why stops) =
    absurd (ran_or_refused laws.steps (code_of placed) world last.world said at why
    (laws.ran (code_of placed) (first_moment world) last said rows is) stops)
drawn_once laws file placed world said _ _ (refused at why stops) (drawn rows last is) =
    absurd (ran_or_refused laws.steps (code_of placed) world last.world said at why
    (laws.ran (code_of placed) (first_moment world) last said rows is) stops)
drawn_once laws file placed world said _ _ (refused at why stops) (refused other also too) =
    let one = refused_once laws.steps (code_of placed) world said at other why also stops too in
    ap (λ (it : ℕ × Event). stop_with {X = List ℕ} (event_refused file it why)) one.places
    ∙ ap (λ (cause : EventRefusal). stop_with {X = List ℕ} (event_refused file other cause)) one.causes

-- ---- what is due

said_once : RunLaws → (file : List ℕ) (placed : PlacedSource) (said : ScriptShape) (first second : VerdictShape) →
    DueForChartOfEvents file placed said first → DueForChartOfEvents file placed said second → first ≡ second
said_once laws file placed said first second =
    one_due (EventsDrawn file placed (first_world placed said.bad said.start) said.events)
    (λ text verdict. verdict ≡ Print Done text) first second
    (drawn_once laws file placed (first_world placed said.bad said.start) said.events)
    (λ text was one two. one ∙ sym two)

script_due_once : RunLaws → (file script : List ℕ) (placed : PlacedSource) (first second : VerdictShape) →
    DueForChartOfScript file script placed first → DueForChartOfScript file script placed second → first ≡ second
script_due_once laws file script placed first second =
    one_due (ScriptRead file script (code_of placed)) (DueForChartOfEvents file placed) first second
    (script_once file script (code_of placed))
    (λ said was. said_once laws file placed said first second)

-- a program and a host file have one plan, or are refused for one cause
abbrev pub OnePlan : Type 0
OnePlan = (program hosts : List ℕ) → IsOne (PlacedSources program hosts)

pub run_once : RunLaws → OnePlan → (file program hosts script : List ℕ) (first second : VerdictShape) →
    DueForChart file program hosts script first → DueForChart file program hosts script second → first ≡ second
run_once laws plans file program hosts script first second =
    one_due (PlacedSources program hosts) (DueForChartOfScript file script) first second (plans program hosts)
    (λ placed was. script_due_once laws file script placed first second)
