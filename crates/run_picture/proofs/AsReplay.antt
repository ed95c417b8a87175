-- What is drawn is what happens in a replay, and what is refused is what a replay refuses.
use Rattle.std.proofs.Common.{ℕ, List, subst}
use Rattle.std.specs.Prelude.{◌↔◌}
use Rattle.event_text.specs.declared.event.Event.{Event}
use Rattle.front_end.specs.PlacedCode.{code_of}
use Rattle.front_end.specs.PlacedSources.{PlacedSource}
use Rattle.front_end.specs.Stages.{given, stopped}
use Rattle.front_end.specs.Verdicts.{VerdictShape}
use Rattle.host_code.specs.Code.{CodeShape}
use Rattle.net_world.specs.Replay.{events_in}
use Rattle.net_world.specs.World.{WorldShape, IsRun}
use Rattle.run_rows.specs.Rows.{first_moment}
use Rattle.script_stages.specs.Scripts.{EventsHappen, happened}
use Rattle.script_stages.specs.Scripts as scripts
use Rattle.run_picture.specs.RunDue.{EventsDrawn, refused}
use Rattle.run_picture.proofs.OneRun.{RunLaws}
use Rattle.run_picture.proofs.SomeRows.{HaveRows, SomeWhy, some_rows}

ran : (file : List ℕ) (code : CodeShape) (first last : WorldShape) (said : List (ℕ × Event)) →
    EventsHappen file code first said (given last) → IsRun code first (events_in said) last
ran file code first _ said (happened last is) = is

pub as_replay : RunLaws → SomeWhy → (file : List ℕ) (code : CodeShape) (first last : WorldShape)
    (said : List (ℕ × Event)) →
    EventsHappen file code first said (given last) ↔ HaveRows code (first_moment first) said last
as_replay laws whys file code first last said = (
  λ happens. some_rows whys code (first_moment first) said last (ran file code first last said happens),
  λ have. happened last
      (subst (λ (w : WorldShape). IsRun code first (events_in said) w) have.3
      (laws.ran code (first_moment first) have.1 said have.0 have.2)),
)

stops : (file : List ℕ) (placed : PlacedSource) (first : WorldShape) (said : List (ℕ × Event))
    (verdict : VerdictShape) → EventsDrawn file placed first said (stopped verdict) →
    EventsHappen file (code_of placed) first said (stopped verdict)
stops file placed first said _ (refused at why is) = scripts.refused at why is

stops_too : (file : List ℕ) (placed : PlacedSource) (first : WorldShape) (said : List (ℕ × Event))
    (verdict : VerdictShape) → EventsHappen file (code_of placed) first said (stopped verdict) →
    EventsDrawn file placed first said (stopped verdict)
stops_too file placed first said _ (scripts.refused at why is) = refused at why is

pub refused_as_replay : (file : List ℕ) (placed : PlacedSource) (first : WorldShape) (said : List (ℕ × Event))
    (verdict : VerdictShape) →
    EventsDrawn file placed first said (stopped verdict)
    ↔ EventsHappen file (code_of placed) first said (stopped verdict)
refused_as_replay file placed first said verdict =
    (stops file placed first said verdict, stops_too file placed first said verdict)
