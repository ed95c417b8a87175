use Rattle.run_comparison.specs.Compare.{holds, fails}
use Rattle.front_end.specs.Verdicts.{verdict_shape}
use Rattle.run_comparison.proofs.comparing.same_misbehave.Goals as goal

pub returns-then-one-other : goal.returns-then-one-other
returns-then-one-other c = holds c.if-one-other.true

pub returns-else-one-other : goal.returns-else-one-other
returns-else-one-other c = fails (verdict_shape c.bad_differ.result) (c.if-one-other.false, c.bad_differ.ensures)
