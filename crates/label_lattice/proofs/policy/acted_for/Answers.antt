use Rattle.std.proofs.Common.{arith}
use Rattle.principals.specs.ActsFor.{ActsFor}
use Rattle.label_lattice.proofs.TrustLemmas.{bits_all}
use Rattle.label_lattice.proofs.policy.acted_for.Goals as goal

pub returns-clause-bits : goal.returns-clause-bits
returns-clause-bits c p within =
    bits_all (ActsFor c.args.principals.now c.args.member.0) c.loop-place.word c.loop-place.place
    (λ k above acts. omega (
      arith,
      c.acts_for_laws.ensures.of_declared c.args.principals.now c.args.member.0 k c.count-place-end.ensures.declared
          c.requires acts,
    ))
    c.loop-place.invariant p

pub returns-clause-declared : goal.returns-clause-declared
returns-clause-declared c p acts =
    c.acts_for_laws.ensures.of_declared c.args.principals.now c.args.member.0 p c.count-place-end.ensures.declared
    c.requires acts
