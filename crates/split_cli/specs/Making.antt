-- What is due for a number of statements, of which a program is made and driven.
--
-- What is made is read as what is loaded. `make` hands its program and its host file to the stages that read files,
-- with their test of the length. So no bound on the length of a made text has to be proved, and what is due is said by
-- the definitions that all commands share.
use Rattle.std.specs.Prelude.{ℕ, ◌+◌, List, [], ◌∷◌, ◌++◌, codes, Option, Some, None}
use Rattle.std.specs.Fmt.{decimal}
use Rattle.host_code.specs.Code.{CodeShape, CodeFieldShape}
use Rattle.host_core.specs.Host.{HostState}
use Rattle.net_world.specs.World.{WorldShape, state_at}
use Rattle.front_end.specs.declared.step_counts.TheConstants.{STEPS}
use Rattle.front_end.specs.PlacedCode.{cost_of}
use Rattle.split_cli.specs.Drive.{DueForDriven}
use Rattle.made_laws.specs.MadePrograms.{made_hosts, made_program}
use Rattle.front_end.specs.PlacedSources.{PlacedSource, PlacedSources}
use Rattle.split_cli.specs.Report.{row_text}
use Rattle.front_end.specs.Stages.{DueThen}
use Rattle.front_end.specs.Text.{line_text}
use Rattle.front_end.specs.Verdicts.{VerdictShape}
use Rattle.split_cli.specs.WorldReport.{elements_of}

-- ---- what is told

-- ` NAME V`, where the field's host obeys
abbrev pub field_value : Option HostState → ℕ → CodeFieldShape → List ℕ
field_value None number field = []
field_value (Some host) number field =
    codes " " ++ field.name ++ codes " " ++ row_text (elements_of host number field.size)

-- the values of the fields from a number on
abbrev pub field_values : WorldShape → ℕ → List CodeFieldShape → List ℕ
field_values w number [] = []
field_values w number (field ∷ fields) =
    field_value (state_at w field.host) number field ++ field_values w (number + 1) fields

-- `make N: cost C events M`, and the values of the fields
abbrev pub made_line : (statements cost : ℕ) → CodeShape → (made : ℕ) → WorldShape → List ℕ
made_line statements cost code made w =
    codes "make " ++ decimal statements ++ codes ": cost " ++ decimal cost ++ codes " events " ++ decimal made
    ++ field_values w 0 code.fields

abbrev pub made_text : (statements cost : ℕ) → CodeShape → (made : ℕ) → WorldShape → List ℕ
made_text statements cost code made w = line_text (made_line statements cost code made w)

-- ---- what is due

-- the hosts of the program in its places are driven, from the values that the program gives its fields
abbrev pub DueForMade : ℕ → PlacedSource → VerdictShape → Type 0
DueForMade statements placed = DueForDriven (made_text statements (cost_of placed)) [] [] STEPS placed

-- What is due for so many statements. A stage that refuses the program that was made stops the command as it stops
-- others.
abbrev pub DueForMake : ℕ → VerdictShape → Type 0
DueForMake statements verdict =
    DueThen (PlacedSources (made_program statements) made_hosts) (DueForMade statements) verdict
