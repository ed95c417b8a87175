use Rattle.principals.specs.ActsFor.{ActsFor}
use Rattle.label_lattice.proofs.TrustLemmas.{BitsBelow}
use Rattle.label_lattice.proofs.policy.acted_for.Given as goal

abbrev pub invariant-loop-place : goal.invariant-loop-place
invariant-loop-place l = BitsBelow (ActsFor l.principals l.member.0) l.word l.place
