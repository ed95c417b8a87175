use Rattle.label_lattice.proofs.LatticeLemmas.{JoinedBelow}
use Rattle.label_lattice.proofs.label.Label.join.Given as goal

abbrev pub invariant-loop-owner : goal.invariant-loop-owner
invariant-loop-owner l = JoinedBelow l.initial.rows l.other.rows l.rows l.owner
