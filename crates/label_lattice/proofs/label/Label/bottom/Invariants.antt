use Rattle.std.proofs.Common.{◌<◌, length}
use Rattle.label_lattice.proofs.TrustLemmas.{BitsBelow}
use Rattle.label_lattice.proofs.label.Label.bottom.Given as goal

abbrev pub invariant-loop-place : goal.invariant-loop-place
invariant-loop-place l = BitsBelow (λ k. k < length l.principals.names) l.trust l.place
