use Rattle.std.proofs.Common.{arith}
use Rattle.need_labels.proofs.backing.need_of.Goals as goal

pub returns : goal.returns
returns c principals parts backed = record {
  word = omega arith;
  members = λ p within.
      let bit = c.loop-principal.invariant.so_far p (omega arith) in
      let trusts = backed.each p within in
      (λ set. trusts.0 (bit.0 set), λ some. bit.1 (trusts.1 some));
}
