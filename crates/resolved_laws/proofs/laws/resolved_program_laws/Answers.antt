use Rattle.resolved_laws.proofs.DraftLines.{named, written}
use Rattle.resolved_laws.proofs.LabelsOver.{program_over}
use Rattle.resolved_laws.proofs.laws.resolved_program_laws.Goals as goal

pub returns-clause-labels_over : goal.returns-clause-labels_over
returns-clause-labels_over c = λ principals draft tree declared is.
    program_over principals draft tree declared is (c.program_laws.ensures.authorities principals draft tree is)
    (c.labelling_laws.ensures.values principals draft tree is)

pub returns-clause-fields : goal.returns-clause-fields
returns-clause-fields c = named

pub returns-clause-methods : goal.returns-clause-methods
returns-clause-methods c = written
