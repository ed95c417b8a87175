use Rattle.std.proofs.Common.{refl}
use Rattle.label_lattice.specs.Lattice.{empty_label, bottom_of, join_of, meet_of}
use Rattle.place_reasons.specs.Reasons.{own_use}
use Rattle.place_reasons.proofs.laws.place_examples.Goals as goal

pub returns : goal.returns
unfolding empty_label bottom_of join_of meet_of own_use
returns c = record {
  outsiders = refl;
  right_operand = refl;
  left_operand = refl;
  array = refl;
  index = refl;
  guarded = refl;
  own_first = refl;
  untrusted = refl;
  held = refl;
  runs = refl;
  guard = refl;
  inside = refl;
  held_guard = refl;
  distrusts_alice = refl;
  distrusts_bob = refl;
  through_local = refl;
  releases = refl;
  begins = refl;
  begins_trusted = refl;
  begins_anywhere = refl;
  fields_by_number = refl;
  statements_by_number = refl;
  nested_by_number = refl;
  held_by_number = refl;
}
