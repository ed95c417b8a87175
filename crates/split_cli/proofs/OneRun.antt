-- A run of a program from a file of starting values has one report, and programs with the same tree have the same.
use Rattle.std.proofs.Common.{◌≡◌, ℕ, List, map, sym, ap, ◌∙◌}
use Rattle.std.specs.Prelude.{ℤ}
use Rattle.jif_tree.specs.declared.program.Program.{Program}
use Rattle.jif_tree.specs.Trees.{ProgramTree, program_tree}
use Rattle.source_run.specs.declared.plain.RunEnd.{RunEnd}
use Rattle.source_run.specs.declared.plain.RunEnd.TheVariants.{Ended, NotYet}
use Rattle.source_run.specs.Alike.{RunAlike}
use Rattle.source_run.specs.Runs.{RunsTo}
use Rattle.split_cli.specs.PlainRun.{run_report, IsRunReport, DueForRun}
use Rattle.event_text.specs.Start.{program_form}
use Rattle.front_end.specs.Starting.{StartingValues}
use Rattle.front_end.specs.Verdicts.{VerdictShape}
use Rattle.front_end.proofs.OneStart.{start_moved, start_once}
use Rattle.front_end.proofs.Stages.{one_due, due_moved}

-- what is known of runs
pub record RunLaws : Type 0 where
  pub same_runs : (program other : Program) → program_tree program ≡ program_tree other → RunAlike program other
  pub one_answer : (program : Program) (start : List (List ℤ)) (steps : ℕ) (first second : RunEnd)
      (one other : List (List ℤ)) → RunsTo program start steps first one → RunsTo program start steps second other →
      (first ≡ second) × (one ≡ other)

runs_alike : (program other : Program) (start : List (List ℤ)) (steps : ℕ) (end : RunEnd) (rows : List (List ℤ)) →
    RunAlike program other → RunsTo other start steps end rows → RunsTo program start steps end rows
runs_alike program other start steps (Ended n) rows alike runs =
    (runs.0, (alike.lengths start n).1 runs.1, runs.2 ∙ sym (alike.stores start n))
runs_alike program other start steps NotYet rows alike runs =
    (λ at_end. runs.0 ((alike.ends start steps).0 at_end), runs.1 ∙ sym (alike.stores start steps))

-- the report of a program is that of another with the same tree
report_moved : RunLaws → (steps : ℕ) (program other : Program) (values : List (List ℤ)) (verdict : VerdictShape) →
    program_tree program ≡ program_tree other → IsRunReport other steps values verdict →
    IsRunReport program steps values verdict
report_moved laws steps program other values verdict same report = record {
  end = report.end;
  rows = report.rows;
  runs = runs_alike program other values steps report.end report.rows (laws.same_runs program other same) report.runs;
  verdict_is = report.verdict_is
      ∙ ap (λ (tree : ProgramTree). run_report tree.fields steps report.end report.rows) (sym same);
}

report_once : RunLaws → (steps : ℕ) (program : Program) (values : List (List ℤ)) (first second : VerdictShape) →
    IsRunReport program steps values first → IsRunReport program steps values second → first ≡ second
report_once laws steps program values first second one two =
    let same = laws.one_answer program values steps one.end two.end one.rows two.rows one.runs two.runs in
    one.verdict_is
    ∙ ap (λ (end : RunEnd). run_report (program_tree program).fields steps end one.rows) same.0
    ∙ ap (run_report (program_tree program).fields steps two.end) same.1
    ∙ sym two.verdict_is

pub run_once : RunLaws → (file start : List ℕ) (steps : ℕ) (tree : ProgramTree) (first second : VerdictShape) →
    DueForRun file start steps tree first → DueForRun file start steps tree second → first ≡ second
run_once laws file start steps tree first second one two =
    let program = one.0 in
    let same : program_tree program ≡ program_tree two.0 = one.1 ∙ sym two.1 in
    one_due (StartingValues file start (map program_form program.fields.items)) (IsRunReport program steps) first second
    (start_once file start (map program_form program.fields.items))
    (λ values was. report_once laws steps program values first second) one.2
    (due_moved (StartingValues file start (map program_form two.0.fields.items)) (StartingValues file start (map program_form program.fields.items))
    (IsRunReport two.0 steps) (IsRunReport program steps) second
    (λ end. start_moved file start program two.0 end same)
    (λ values. report_moved laws steps program two.0 values second same) two.2)
