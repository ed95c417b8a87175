-- What is due for a script that was read, by what its events leave.
use Rattle.std.proofs.Common.{◌≡◌, ℕ, List, ap, ◌∙◌, inl, inr}
use Rattle.js_base.specs.declared.status.Status.TheVariants.{Done}
use Rattle.event_text.specs.Script.{ScriptShape}
use Rattle.host_code.specs.Code.{CodeShape}
use Rattle.jif_tree.specs.declared.program.Program.{Program}
use Rattle.jif_tree.specs.Trees.{program_tree}
use Rattle.net_world.specs.World.{WorldShape}
use Rattle.script_stages.specs.FirstWorld.{first_world}
use Rattle.front_end.specs.PlacedCode.{code_of}
use Rattle.front_end.specs.PlacedSources.{PlacedSource}
use Rattle.split_cli.specs.Replay.{replay_text, DueForReplay}
use Rattle.script_stages.specs.Scripts.{ScriptRead, read, EventsHappen}
use Rattle.split_cli.specs.Replay.{DueForSaid}
use Rattle.front_end.specs.Stages.{given, stopped}
use Rattle.front_end.specs.Verdicts.{VerdictShape, Print}

-- ---- what is due

-- where the script stops the command
pub script_stops : (file script : List ℕ) (placed : PlacedSource) (program : Program) (verdict : VerdictShape) →
    program_tree program ≡ placed.source.tree → ScriptRead file script (code_of placed) (stopped verdict) →
    DueForReplay file script placed verdict
script_stops file script placed program verdict same was = (program, same, inr was)

-- where it was read
pub script_happens : (file script : List ℕ) (placed : PlacedSource) (program : Program) (said : ScriptShape)
    (verdict : VerdictShape) → program_tree program ≡ placed.source.tree →
    ScriptRead file script (code_of placed) (given said) → DueForSaid file placed said verdict →
    DueForReplay file script placed verdict
script_happens file script placed program said verdict same was due = (program, same, inl (said, was, due))

-- where one of its events is refused
pub events_stop : (file : List ℕ) (placed : PlacedSource) (said : ScriptShape) (verdict : VerdictShape) →
    EventsHappen file (code_of placed) (first_world placed said.bad said.start) said.events (stopped verdict) →
    DueForSaid file placed said verdict
events_stop file placed said verdict stops = inr stops

-- the report, where they all happen
pub events_reported : (file : List ℕ) (placed : PlacedSource) (code : CodeShape) (said : ScriptShape)
    (last : WorldShape) (text : List ℕ) → code ≡ code_of placed →
    EventsHappen file (code_of placed) (first_world placed said.bad said.start) said.events (given last) →
    text ≡ replay_text code last → DueForSaid file placed said (Print Done text)
events_reported file placed code said last text same happen is =
    inl (last, happen, ap (Print Done) (is ∙ ap (λ (c : CodeShape). replay_text c last) same))
