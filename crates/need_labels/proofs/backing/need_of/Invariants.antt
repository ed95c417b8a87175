use Rattle.std.proofs.Common.{◌≡◌, ◌↔◌, ℕ, ◌<◌, ◌≤◌, ◌^◌}
use Rattle.js_base.specs.declared.bits.TheConstants.{WORD_BITS}
use Rattle.std.specs.Int.{bit_at}
use Rattle.label_lattice.specs.Label.{Trusts}
use Rattle.need_labels.proofs.backing.need_of.Given as goal

-- the bits below the next principal are those of the trusting, and no other is set
abbrev pub invariant-loop-principal : goal.invariant-loop-principal
invariant-loop-principal l = record {
  so_far : (k : ℕ) → k < l.principal → ((bit_at l.need k ≡ 1) ↔ Trusts l.backing k);
  none : (k : ℕ) → l.principal ≤ k → bit_at l.need k ≡ 0;
  word : l.need < 2 ^ WORD_BITS;
}
