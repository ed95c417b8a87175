use Rattle.std.proofs.Common.{◌≡◌, ℕ, Some, None}
use Rattle.std.proofs.lemmas.Result.{IfOk-weaker}
use Rattle.run_comparison.specs.Compare.{holds}
use Rattle.front_end.specs.Verdicts.{not_prompt}
use Rattle.run_comparison.proofs.CompareDue.{premise_stops}
use Rattle.run_comparison.proofs.comparing.is_prompt.Goals as goal

pub returns-in-None : goal.returns-in-None
returns-in-None c = λ last. holds c.in-None.is

pub returns-in-Some : goal.returns-in-Some
returns-in-Some c = λ last.
    premise_stops (c.args.seen.now.late ≡ None)
    (λ verdict. (line : ℕ) × (c.args.seen.now.late ≡ Some line) × (verdict ≡ not_prompt c.args.name.now line))
    c.at_line.result c.stopped.result
    (IfOk-weaker c.at_line.result _ _ (λ verdict is. (c.in-Some.line, c.in-Some.is, is)) c.at_line.ensures)
    c.stopped.ensures
