use Rattle.label_lattice.proofs.PolicyLemmas.{KeptBelow}
use Rattle.label_lattice.proofs.policy.forbidden_readers.Given as goal

abbrev pub invariant-loop-place : goal.invariant-loop-place
invariant-loop-place l = KeptBelow l.principals l.owner l.readers l.forbidden l.place
