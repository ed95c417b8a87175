use Rattle.std.proofs.Common.{◌≡◌, ℕ}
use Rattle.std.proofs.lemmas.Result.{IfOk-weaker}
use Rattle.host_code.specs.Code.{CodeFieldShape}
use Rattle.run_comparison.specs.Compare.{StartAlike, IsFirstUnlike, holds}
use Rattle.front_end.specs.Verdicts.{starts_differ}
use Rattle.run_comparison.proofs.CompareDue.{premise_stops}
use Rattle.run_comparison.proofs.comparing.same_starts.Goals as goal

pub returns-in-None : goal.returns-in-None
returns-in-None c = λ code world one other found. holds (rw c.in-None.is at found)

pub returns-in-Some : goal.returns-in-Some
returns-in-Some c = λ code world one other found.
    let first = rw c.in-Some.is at found in
    premise_stops (StartAlike code world one other)
    (λ verdict. (number : ℕ) × (field : CodeFieldShape) × IsFirstUnlike code world one other number field
    × (verdict ≡ starts_differ field.name))
    c.starts_differ.result c.stopped.result
    (IfOk-weaker c.starts_differ.result _ _ (λ verdict is. (first.0, c.in-Some.field.now, first.1, is))
    (rw c.name.ensures at c.starts_differ.ensures))
    c.stopped.ensures
