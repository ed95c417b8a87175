use Rattle.label_lattice.proofs.LabelOrNone.{label_or_none}
use Rattle.label_lattice.proofs.MadeLabels.{parts_make}
use Rattle.label_lattice.proofs.laws.written_laws.Goals as goal

pub returns : goal.returns
returns c = record {
  parts_make = parts_make c.acts_for_laws.ensures.of_outsider c.acts_for_laws.ensures.of_declared
      c.acts_for_laws.ensures.transitive;
  label_or_none = label_or_none c.acts_for_laws.ensures.of_outsider c.acts_for_laws.ensures.of_declared
      c.acts_for_laws.ensures.transitive;
}
