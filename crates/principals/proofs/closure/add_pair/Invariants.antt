use Rattle.principals.proofs.Rows.{GainedBelow}
use Rattle.principals.proofs.closure.add_pair.Given as goal

abbrev pub invariant-loop-place : goal.invariant-loop-place
invariant-loop-place l = GainedBelow l.initial.rows l.rows l.pair.0.0 l.reached l.place
