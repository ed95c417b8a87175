-- What is due for a run of an accepted program from the starting values of a file.
use Rattle.std.specs.Prelude.{◌≡◌, ℕ, ℤ, List, [], ◌∷◌, ◌++◌, codes, map}
use Rattle.std.specs.Fmt.{decimal}
use Rattle.js_base.specs.declared.status.Status.{Status}
use Rattle.js_base.specs.declared.status.Status.TheVariants.{Done, Spent}
use Rattle.jif_tree.specs.declared.program.Program.{Program}
use Rattle.jif_tree.specs.Trees.{FieldTree, ProgramTree, program_tree}
use Rattle.source_run.specs.declared.plain.RunEnd.{RunEnd}
use Rattle.source_run.specs.declared.plain.RunEnd.TheVariants.{Ended, NotYet}
use Rattle.source_run.specs.Runs.{RunsTo}
use Rattle.split_cli.specs.Report.{row_line}
use Rattle.front_end.specs.Stages.{DueThen}
use Rattle.event_text.specs.Start.{program_form}
use Rattle.front_end.specs.Starting.{StartingValues}
use Rattle.front_end.specs.Text.{lines_text}
use Rattle.front_end.specs.Verdicts.{VerdictShape, Print}

-- ---- the report

-- how a run of at most so many steps ended
abbrev pub end_line : ℕ → RunEnd → List ℕ
end_line steps (Ended taken) = codes "ended after " ++ decimal taken ++ codes " steps"
end_line steps NotYet = codes "not ended after " ++ decimal steps ++ codes " steps"

abbrev pub end_status : RunEnd → Status
end_status (Ended taken) = Done
end_status NotYet = Spent

-- a line for each field that has a row
abbrev pub store_lines : List FieldTree → List (List ℤ) → List (List ℕ)
store_lines [] rows = []
store_lines (field ∷ fields) [] = []
store_lines (field ∷ fields) (row ∷ rows) = row_line field.name row ∷ store_lines fields rows

abbrev pub run_report : List FieldTree → ℕ → RunEnd → List (List ℤ) → VerdictShape
run_report fields steps end rows =
    Print (end_status end) (lines_text (end_line steps end ∷ store_lines fields rows))

-- the report of at most so many steps from these starting values
pub record IsRunReport (program : Program) (steps : ℕ) (values : List (List ℤ)) (verdict : VerdictShape) : Type 0 where
  pub end : RunEnd
  pub rows : List (List ℤ)
  pub runs : RunsTo program values steps end rows
  pub verdict_is : verdict ≡ run_report (program_tree program).fields steps end rows

-- ---- what is due, where the third file has this name and holds these bytes

-- all programs with the same tree run alike
abbrev pub DueForRun : List ℕ → List ℕ → ℕ → ProgramTree → VerdictShape → Type 0
DueForRun file start steps tree verdict =
    (program : Program) × (program_tree program ≡ tree)
    × DueThen (StartingValues file start (map program_form program.fields.items)) (IsRunReport program steps) verdict
