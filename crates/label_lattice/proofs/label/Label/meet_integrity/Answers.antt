use Rattle.std.proofs.Common.{sym, subst}
use Rattle.label_lattice.specs.declared.label.Label.{Label}
use Rattle.label_lattice.specs.Lattice.{IsIntegrityMeet}
use Rattle.label_lattice.specs.Over.{IsLabelOver}
use Rattle.label_lattice.proofs.Values.{met_label, meet_is, meet_over}
use Rattle.label_lattice.proofs.label.Label.meet_integrity.Goals as goal

pub returns-clause-value : goal.returns-clause-value
returns-clause-value c = met_label c.args.self c.args.other c.all_bits-trust.result c.all_bits-trust.ensures

pub returns-clause-sets : goal.returns-clause-sets
returns-clause-sets c =
    let P : Label → Type 0 = λ meet. IsIntegrityMeet c.args.self c.args.other meet in
    subst P (sym (met_label c.args.self c.args.other c.all_bits-trust.result c.all_bits-trust.ensures))
    (meet_is c.args.self c.args.other)

pub returns-clause-over : goal.returns-clause-over
returns-clause-over c principals one two =
    let P : Label → Type 0 = λ meet. IsLabelOver principals meet in
    subst P (sym (met_label c.args.self c.args.other c.all_bits-trust.result c.all_bits-trust.ensures))
    (meet_over principals c.args.self c.args.other one two)
