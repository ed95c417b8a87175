use Rattle.std.proofs.Common.{◌≡◌, ◌<◌, arith, length, sym, subst}
use Rattle.label_lattice.specs.declared.label.Label.{Label}
use Rattle.label_lattice.specs.Label.{IsBottom}
use Rattle.label_lattice.specs.Lattice.{free_rows, bottom_of}
use Rattle.label_lattice.specs.Over.{IsLabelOver}
use Rattle.label_lattice.proofs.TrustLemmas.{bits_all}
use Rattle.label_lattice.proofs.Values.{bottom_label, bottom_is, bottom_over}
use Rattle.label_lattice.proofs.label.Label.bottom.Goals as goal

value : (c : goal.After-loop-place) →
    record { rows = free_rows; trust = c.loop-place.trust } ≡ bottom_of c.args.principals.now
value c =
    bottom_label c.args.principals.now c.loop-place.trust
    (bits_all (λ k. k < length c.args.principals.now.names) c.loop-place.trust c.loop-place.place
    (λ k above below. omega arith) c.loop-place.invariant)

pub returns-clause-value : goal.returns-clause-value
returns-clause-value c = value c

pub returns-clause-sets : goal.returns-clause-sets
returns-clause-sets c =
    let P : Label → Type 0 = λ label. IsBottom c.args.principals.now label in
    subst P (sym (value c)) (bottom_is c.args.principals.now)

pub returns-clause-over : goal.returns-clause-over
returns-clause-over c =
    let P : Label → Type 0 = λ label. IsLabelOver c.args.principals.now label in
    subst P (sym (value c)) (bottom_over c.acts_for_laws.ensures.of_declared c.args.principals.now
    c.count-place-end.ensures.declared)
