use Rattle.std.proofs.Common.{refl}
use Rattle.label_lattice.specs.Lattice.{empty_label}
use Rattle.msg_cost.specs.Moves.{is_trusted_by}
use Rattle.msg_cost.proofs.laws.cost_examples.Goals as goal

pub returns : goal.returns
unfolding is_trusted_by empty_label
returns c = record {
  lent = refl;
  handed = refl;
  told = refl;
  called = refl;
  forwarded = refl;
  rides = refl;
  added = refl;
  apart = refl;
  first = refl;
  second = refl;
  looped = refl;
  near = refl;
  asked = refl;
  stays = refl;
  nested = refl;
}
