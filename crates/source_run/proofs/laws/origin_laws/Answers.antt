use Rattle.source_run.proofs.ItemOrigins.{of_program}
use Rattle.source_run.proofs.laws.origin_laws.Goals as goal

pub returns : goal.returns
returns c = record { of_program = of_program }
