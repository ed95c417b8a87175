use Rattle.std.proofs.Common.{◌≡◌, sym, subst, length, arith, rules}
use Rattle.label_lattice.specs.declared.label.Label.{Label}
use Rattle.label_lattice.specs.Lattice.{IsJoin, join_of}
use Rattle.label_lattice.specs.Over.{IsLabelOver}
use Rattle.label_lattice.proofs.LatticeLemmas.{joined_none, joined_more}
use Rattle.label_lattice.proofs.Values.{joined_label, join_is, join_over}
use Rattle.label_lattice.proofs.label.Label.join.Goals as goal

pub loop-owner-init : goal.loop-owner-init
loop-owner-init c = joined_none c.args.self.rows c.args.other.rows

pub loop-owner-preserved : goal.loop-owner-preserved
loop-owner-preserved c =
    let long : length c.args.self.rows ≡ 63 = search rules in
    joined_more c.args.self.rows c.args.other.rows c.loop-owner.rows c.loop-owner.owner c.common_bits.result
    (omega arith) c.common_bits.ensures c.loop-owner.invariant

value : (c : goal.After-common_bits-2) →
    record { rows = c.loop-owner.rows; trust = c.common_bits-2.result } ≡ join_of c.args.self c.args.other
value c =
    let self_long : length c.args.self.rows ≡ 63 = search rules in
    let other_long : length c.args.other.rows ≡ 63 = search rules in
    joined_label c.args.self c.args.other c.loop-owner.rows c.common_bits-2.result c.loop-owner.owner
    self_long other_long (omega arith) c.loop-owner.invariant c.common_bits-2.ensures

pub returns-clause-value : goal.returns-clause-value
returns-clause-value c = value c

pub returns-clause-sets : goal.returns-clause-sets
returns-clause-sets c =
    let self_long : length c.args.self.rows ≡ 63 = search rules in
    let other_long : length c.args.other.rows ≡ 63 = search rules in
    let P : Label → Type 0 = λ join. IsJoin c.args.self c.args.other join in
    subst P (sym (value c)) (join_is c.args.self c.args.other self_long other_long)

pub returns-clause-over : goal.returns-clause-over
returns-clause-over c principals one two =
    let P : Label → Type 0 = λ join. IsLabelOver principals join in
    subst P (sym (value c)) (join_over principals c.args.self c.args.other one two)
