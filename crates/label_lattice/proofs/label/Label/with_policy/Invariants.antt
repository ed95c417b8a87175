use Rattle.label_lattice.proofs.PolicyLemmas.{RowsBelow}
use Rattle.label_lattice.proofs.label.Label.with_policy.Given as goal

abbrev pub invariant-loop-place : goal.invariant-loop-place
invariant-loop-place l = RowsBelow l.initial.rows l.rows l.principals l.owner l.readers l.place
