use Rattle.std.proofs.Common.{arith, inl}
use Rattle.label_lattice.proofs.OverLemmas.{declared_gains_more, over_trust}
use Rattle.label_lattice.proofs.TrustLemmas.{TrustGains, no_gain, gains_more, gains_all}
use Rattle.label_lattice.proofs.label.Label.with_trust.Goals as goal

pub loop-member-init : goal.loop-member-init
loop-member-init c = record {
  gains = no_gain c.args.principals.now c.args.self.trust;
  declared = λ p _ set. inl set;
  word = omega arith;
}

pub loop-member-preserved : goal.loop-member-preserved
loop-member-preserved c = record {
  gains = gains_more c.args.principals.now c.args.by.now c.loop-member.member-index _ c.args.self.trust
      c.loop-member.trust c.acted_for.result c.all_bits-trust.result (omega arith) c.acted_for.ensures.bits
      c.all_bits-trust.ensures c.loop-member.invariant.gains;
  declared = declared_gains_more c.args.principals.now c.args.self.trust c.loop-member.trust c.acted_for.result
      c.all_bits-trust.result
      (λ p p_in set. c.acted_for.ensures.declared p ((c.acted_for.ensures.bits p p_in).0 set))
      c.all_bits-trust.ensures c.loop-member.invariant.declared;
  word = omega arith;
}

gains : (c : goal.After-loop-member) →
    TrustGains c.args.principals.now c.args.by.now c.args.self.trust c.loop-member.trust
gains c =
    gains_all c.args.principals.now c.args.by.now c.loop-member.member-index c.args.self.trust c.loop-member.trust
    (omega arith) c.loop-member.invariant.gains

pub returns-clause-trusts : goal.returns-clause-trusts
returns-clause-trusts c = gains c

pub returns-clause-over : goal.returns-clause-over
returns-clause-over c over =
    over_trust c.acts_for_laws.ensures.transitive c.args.principals.now c.args.by.now c.args.self _
    (record { long = over.is_label.long; words = over.is_label.words; trust = c.loop-member.invariant.word })
    (λ q r q_in r_in. (λ forbids. forbids, λ forbids. forbids)) (gains c) c.loop-member.invariant.declared over
