use Rattle.jif_resolve.proofs.HasProgram.{program_or_refusal}
use Rattle.jif_resolve.proofs.LabelsMade.{has_labels}
use Rattle.jif_resolve.proofs.laws.verdict_laws.Goals as goal

pub returns : goal.returns
returns c = record {
  program_or_refusal = λ principals draft declared.
      program_or_refusal principals draft (has_labels c.written_laws.ensures.parts_make principals declared);
}
