use Rattle.std.proofs.Common.{refl}
use Rattle.label_lattice.specs.Lattice.{empty_label}
use Rattle.label_lattice.proofs.Values.{empty_forbids, empty_untrusted, empty_over}
use Rattle.label_lattice.proofs.label.Label.empty.Goals as goal

pub returns : goal.returns
unfolding empty_label
returns c = record {
  forbids = empty_forbids;
  trusts = empty_untrusted;
  value = refl;
  over = empty_over;
}
