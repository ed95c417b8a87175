use Rattle.std.proofs.Common.{refl}
use Rattle.label_lattice.specs.Lattice.{empty_label, bottom_of, join_of, meet_of}
use Rattle.label_reasons.proofs.laws.reason_examples.Goals as goal

pub returns : goal.returns
unfolding empty_label bottom_of join_of meet_of
returns c = record {
  guarded = refl;
  acting = refl;
  untrusted_release = refl;
  unowned_release = refl;
  two_secrets = refl;
  untrusted = refl;
  called = refl;
}
