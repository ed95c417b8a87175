-- What is due for an accepted program in its places, whose hosts make the events of a script happen.
use Rattle.std.specs.Prelude.{◌≡◌, ℕ, List}
use Rattle.js_base.specs.declared.status.Status.TheVariants.{Done}
use Rattle.jif_tree.specs.declared.program.Program.{Program}
use Rattle.jif_tree.specs.Trees.{program_tree}
use Rattle.event_text.specs.declared.event.Event.{Event}
use Rattle.event_text.specs.Script.{ScriptShape}
use Rattle.host_code.specs.Code.{CodeShape}
use Rattle.net_world.specs.World.{WorldShape}
use Rattle.script_stages.specs.FirstWorld.{first_world}
use Rattle.script_stages.specs.Scripts.{ScriptRead, EventsHappen}
use Rattle.front_end.specs.PlacedCode.{code_of}
use Rattle.front_end.specs.PlacedSources.{PlacedSource}
use Rattle.front_end.specs.Stages.{DueThen}
use Rattle.front_end.specs.Text.{lines_text}
use Rattle.front_end.specs.Verdicts.{VerdictShape, Print}
use Rattle.split_cli.specs.WorldReport.{world_lines}

-- what is said of a world at the end of a replay
abbrev pub replay_text : CodeShape → WorldShape → List ℕ
replay_text code world = lines_text (world_lines code world)

-- ---- what is due

-- the report of the world that the events leave
abbrev pub DueForEvents : List ℕ → CodeShape → WorldShape → List (ℕ × Event) → VerdictShape → Type 0
DueForEvents file code world said =
    DueThen (EventsHappen file code world said) (λ last verdict. verdict ≡ Print Done (replay_text code last))

-- where this was read of the script
abbrev pub DueForSaid : List ℕ → PlacedSource → ScriptShape → VerdictShape → Type 0
DueForSaid file placed said =
    DueForEvents file (code_of placed) (first_world placed said.bad said.start) said.events

abbrev pub DueForScript : List ℕ → List ℕ → PlacedSource → VerdictShape → Type 0
DueForScript file script placed = DueThen (ScriptRead file script (code_of placed)) (DueForSaid file placed)

-- hosts make the script happen; the tree is that of some program
abbrev pub DueForReplay : List ℕ → List ℕ → PlacedSource → VerdictShape → Type 0
DueForReplay file script placed verdict =
    (program : Program) × (program_tree program ≡ placed.source.tree) × DueForScript file script placed verdict
