-- What is due for an accepted program in its places, whose hosts are driven from the starting values of a file.
use Rattle.std.specs.Prelude.{◌≡◌, ℕ, ℤ, List, ◌∷◌, ◌++◌, codes, length, map}
use Rattle.std.specs.Fmt.{decimal}
use Rattle.js_base.specs.declared.status.Status.{Status}
use Rattle.jif_tree.specs.declared.program.Program.{Program}
use Rattle.jif_tree.specs.Trees.{program_tree}
use Rattle.event_text.specs.declared.event.Event.{Event}
use Rattle.event_text.specs.Start.{program_form}
use Rattle.host_code.specs.Code.{CodeShape}
use Rattle.net_world.specs.World.{WorldShape}
use Rattle.split_cli.specs.Driven.{DrivesTo}
use Rattle.front_end.specs.PlacedCode.{code_of}
use Rattle.front_end.specs.PlacedSources.{PlacedSource}
use Rattle.front_end.specs.Stages.{DueThen}
use Rattle.front_end.specs.Starting.{StartingValues}
use Rattle.front_end.specs.Text.{lines_text}
use Rattle.front_end.specs.Verdicts.{VerdictShape, Print}
use Rattle.script_stages.specs.FirstWorld.{first_world}
use Rattle.split_cli.specs.WorldReport.{world_lines}

-- `events M`, the number of events that were made
abbrev pub events_line : ℕ → List ℕ
events_line made = codes "events " ++ decimal made

-- that line, and the world that the events left
abbrev pub drive_text : CodeShape → ℕ → WorldShape → List ℕ
drive_text code made w = lines_text (events_line made ∷ world_lines code w)

-- What is told of at most so many events from these starting values, each the one that comes next; no host misbehaves.
-- The text is one of the code, the number of events, and the world that they leave.
pub record TellsDrive
    (text : CodeShape → ℕ → WorldShape → List ℕ) (placed : PlacedSource) (values : List (List ℤ)) (most : ℕ)
    (verdict : VerdictShape) : Type 0 where
  pub events : List Event
  pub last : WorldShape
  pub status : Status
  pub ends : DrivesTo (code_of placed) (first_world placed 0 values) most events last status
  pub verdict_is : verdict ≡ Print status (text (code_of placed) (length events) last)

-- the report of such events
abbrev pub IsDriveReport : PlacedSource → List (List ℤ) → ℕ → VerdictShape → Type 0
IsDriveReport = TellsDrive drive_text

-- ---- what is due, where the file of starting values has this name and holds these bytes

-- hosts are driven through the program, and so much is told, by all programs with the same tree alike
abbrev pub DueForDriven : (CodeShape → ℕ → WorldShape → List ℕ) → List ℕ → List ℕ → ℕ → PlacedSource →
    VerdictShape → Type 0
DueForDriven text file start most placed verdict =
    (program : Program) × (program_tree program ≡ placed.source.tree)
    × DueThen (StartingValues file start (map program_form program.fields.items))
    (λ values. TellsDrive text placed values most) verdict

abbrev pub DueForDrive : List ℕ → List ℕ → ℕ → PlacedSource → VerdictShape → Type 0
DueForDrive = DueForDriven drive_text
