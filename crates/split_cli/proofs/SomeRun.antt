-- For a run of a program that was read something is due, whatever the file of starting values holds.
use Rattle.std.proofs.Common.{ℕ, List, map, refl}
use Rattle.std.specs.Prelude.{ℤ}
use Rattle.jif_tree.specs.declared.program.Program.{Program}
use Rattle.jif_tree.specs.Trees.{ProgramTree, program_tree}
use Rattle.source_run.specs.declared.plain.RunEnd.{RunEnd}
use Rattle.source_run.specs.Runs.{RunsTo}
use Rattle.split_cli.specs.PlainRun.{run_report, IsRunReport, DueForRun}
use Rattle.event_text.specs.Start.{program_form}
use Rattle.front_end.specs.Starting.{StartingValues}
use Rattle.front_end.proofs.NativeParts.{IsSeen}
use Rattle.front_end.proofs.SomeStages.{HasVerdict, some_due}
use Rattle.front_end.proofs.SomeStart.{SomeStart, start_some}

-- a run of so many steps ends, or has not ended yet
abbrev pub SomeEnd : Type 0
SomeEnd = (program : Program) (start : List (List ℤ)) (steps : ℕ) →
    (end : RunEnd) × (stop : List (List ℤ)) × RunsTo program start steps end stop

report_some : SomeEnd → (program : Program) (steps : ℕ) (values : List (List ℤ)) →
    HasVerdict (IsRunReport program steps values)
report_some law program steps values =
    let run = law program values steps in (
      run_report (program_tree program).fields steps run.0 run.1,
      record { end = run.0; rows = run.1; runs = run.2; verdict_is = refl },
    )

pub run_some : SomeStart → SomeEnd → (file start : List ℕ) (steps : ℕ) (tree : ProgramTree) →
    IsSeen program_tree tree → HasVerdict (DueForRun file start steps tree)
run_some start_law end_law file start steps tree seen =
    let program = seen.0 in
    let due = some_due (StartingValues file start (map program_form program.fields.items)) (IsRunReport program steps)
    (start_some start_law file start (map program_form program.fields.items))
    (λ values was. report_some end_law program steps values) in
    (due.0, (program, seen.1, due.1))
