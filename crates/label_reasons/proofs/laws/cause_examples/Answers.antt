use Rattle.std.proofs.Common.{refl}
use Rattle.std.proofs.lemmas.Bool.{false≢true}
use Rattle.label_lattice.specs.Lattice.{empty_label}
use Rattle.label_reasons.proofs.laws.cause_examples.Goals as goal

pub returns : goal.returns
unfolding empty_label
returns c = record {
  fails = (refl, λ is. false≢true is);
  passes = λ fails. false≢true fails.0;
  distrusted = (refl, λ is. false≢true is);
  number_alone = λ value. refl;
  secret_field = refl;
  public_field = refl;
  declared_variable = refl;
  begin_label = refl;
  first_of_sum = refl;
  second_of_sum = refl;
  index_first = refl;
  release = refl;
  release_inside = refl;
  written_first = refl;
  release_trust = refl;
  endorse_keeps = refl;
  endorse_trust = refl;
  endorsed_for = refl;
  through_guard = refl;
  through_local = refl;
  local_inside = refl;
  value_first = refl;
  outer_guard = refl;
  labelled_kept = refl;
}
