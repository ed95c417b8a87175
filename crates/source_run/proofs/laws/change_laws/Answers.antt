use Rattle.source_run.proofs.OneChange.{one_change}
use Rattle.source_run.proofs.laws.change_laws.Goals as goal

pub returns : goal.returns
returns c = record { one_change = one_change }
