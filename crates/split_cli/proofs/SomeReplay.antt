-- For a replay of a program in its places something is due, whatever the script holds.
use Rattle.std.proofs.Common.{◌≡◌, ℕ, List, refl}
use Rattle.js_base.specs.declared.status.Status.TheVariants.{Done}
use Rattle.jif_tree.specs.Trees.{program_tree}
use Rattle.event_text.specs.declared.event.Event.{Event}
use Rattle.host_code.specs.Code.{CodeShape}
use Rattle.net_world.specs.World.{WorldShape}
use Rattle.script_stages.specs.FirstWorld.{first_world}
use Rattle.front_end.specs.PlacedCode.{code_of}
use Rattle.front_end.specs.PlacedSources.{PlacedSource}
use Rattle.script_stages.specs.Scripts.{ScriptRead, EventsHappen}
use Rattle.split_cli.specs.Replay.{replay_text, DueForEvents, DueForScript, DueForReplay}
use Rattle.front_end.specs.Verdicts.{Print}
use Rattle.front_end.proofs.NativeParts.{IsSeen}
use Rattle.script_stages.proofs.SomeScript.{SomeScript, SomeStep, events_some, script_some}
use Rattle.front_end.proofs.SomeStages.{HasVerdict, some_due}

verdict_for_events : SomeStep → (file : List ℕ) (code : CodeShape) (world : WorldShape) (said : List (ℕ × Event)) →
    HasVerdict (DueForEvents file code world said)
verdict_for_events law file code world said =
    some_due (EventsHappen file code world said) (λ last verdict. verdict ≡ Print Done (replay_text code last))
    (events_some law file code world said) (λ last was. (Print Done (replay_text code last), refl))

-- ---- replays

script_due : SomeScript → SomeStep → (file script : List ℕ) (placed : PlacedSource) →
    HasVerdict (DueForScript file script placed)
script_due scripts steps file script placed =
    some_due (ScriptRead file script (code_of placed))
    (λ said. DueForEvents file (code_of placed) (first_world placed said.bad said.start) said.events)
    (script_some scripts file script (code_of placed))
    (λ said was. verdict_for_events steps file (code_of placed) (first_world placed said.bad said.start) said.events)

pub replay_some : SomeScript → SomeStep → (file script : List ℕ) (placed : PlacedSource) →
    IsSeen program_tree placed.source.tree → HasVerdict (DueForReplay file script placed)
replay_some scripts steps file script placed seen =
    let due = script_due scripts steps file script placed in (due.0, (seen.0, seen.1, due.1))
