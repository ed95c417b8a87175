use Rattle.jif_resolve.proofs.BeginLabels.{begins_over, readers}
use Rattle.jif_resolve.proofs.DeclaredLabels.{results_labelled}
use Rattle.jif_resolve.proofs.LabelledPrograms.{values_are_labelled, methods_are_labelled}
use Rattle.jif_resolve.proofs.Returning.{returns_last}
use Rattle.jif_resolve.proofs.laws.labelling_laws.Goals as goal

pub returns : goal.returns
returns c = record {
  returns = returns_last;
  begins = begins_over;
  readers = readers;
  labelled = methods_are_labelled;
  values = values_are_labelled;
  results = results_labelled;
}
