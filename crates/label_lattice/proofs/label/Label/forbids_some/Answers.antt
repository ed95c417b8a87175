use Rattle.std.proofs.Common.{get_or}
use Rattle.label_lattice.proofs.PrintedLemmas.{lacks_by}
use Rattle.label_lattice.proofs.label.Label.forbids_some.Goals as goal

pub returns : goal.returns
returns c = lacks_by (get_or c.args.self.now.rows c.args.owner.0 0) c.bits_within.result c.bits_within.ensures
