use Rattle.label_lattice.proofs.PolicyLemmas.{NoneBelow}
use Rattle.label_lattice.proofs.policy.acts_for_none.Given as goal

abbrev pub invariant-loop-other : goal.invariant-loop-other
invariant-loop-other l = NoneBelow l.principals l.p.0 l.others l.other-index
