use Rattle.std.proofs.Common.{take, ◌<◌, ◌^◌}
use Rattle.label_lattice.proofs.OverLemmas.{DeclaredGains}
use Rattle.label_lattice.proofs.TrustLemmas.{TrustGains}
use Rattle.label_lattice.proofs.label.Label.with_trust.Given as goal

abbrev pub invariant-loop-member : goal.invariant-loop-member
invariant-loop-member l = record {
  gains : TrustGains l.principals (take l.member-index l.by) l.initial.trust l.trust;
  declared : DeclaredGains l.principals l.initial.trust l.trust;
  word : l.trust < 2 ^ 64;
}
