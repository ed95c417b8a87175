use Rattle.source_run.proofs.TreeRuns.{same_runs}
use Rattle.source_run.proofs.Lengths.{one_length, one_answer, some_answer}
use Rattle.source_run.proofs.laws.run_laws.Goals as goal

pub returns : goal.returns
returns c = record {
  same_runs = same_runs;
  one_length = one_length;
  one_answer = one_answer;
  some_answer =
      some_answer;
}
