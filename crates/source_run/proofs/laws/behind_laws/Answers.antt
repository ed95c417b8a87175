use Rattle.source_run.proofs.BehindItems.{left_alone}
use Rattle.source_run.proofs.laws.behind_laws.Goals as goal

pub returns : goal.returns
returns c = record { left_alone = left_alone }
