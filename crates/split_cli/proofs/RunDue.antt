-- The report of a run, by how it ended.
use Rattle.std.proofs.Common.{◌≡◌, ℕ, List, map, ap, ◌∙◌}
use Rattle.std.specs.Prelude.{ℤ}
use Rattle.jif_tree.specs.declared.program.Program.{Program}
use Rattle.jif_tree.specs.declared.program.Field.{Field}
use Rattle.jif_tree.specs.Trees.{field_tree}
use Rattle.source_run.specs.declared.plain.RunEnd.{RunEnd}
use Rattle.source_run.specs.Runs.{RunsTo}
use Rattle.split_cli.specs.PlainRun.{IsRunReport, run_report}
use Rattle.front_end.specs.Verdicts.{VerdictShape}

pub run_reported : (program : Program) (steps : ℕ) (fields : List Field) (values rows : List (List ℤ)) (end : RunEnd)
    (verdict : VerdictShape) → RunsTo program values steps end rows → fields ≡ program.fields.items →
    verdict ≡ run_report (map field_tree fields) steps end rows → IsRunReport program steps values verdict
run_reported program steps fields values rows end verdict runs fields_are is = record {
  end = end;
  rows = rows;
  runs = runs;
  verdict_is = is ∙ ap (λ (xs : List Field). run_report (map field_tree xs) steps end rows) fields_are;
}
