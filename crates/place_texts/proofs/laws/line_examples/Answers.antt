use Rattle.std.proofs.Common.{refl}
use Rattle.std.specs.Fmt.{digits}
use Rattle.label_lattice.specs.Lattice.{empty_label}
use Rattle.place_texts.proofs.laws.line_examples.Goals as goal

pub returns : goal.returns
unfolding empty_label digits
returns c = record {
  outsiders = refl;
  untrusted = refl;
  begins = refl;
  head = refl;
  sets = refl;
  inside = refl;
  releases = refl;
}
