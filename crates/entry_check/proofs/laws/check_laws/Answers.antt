use Rattle.entry_check.proofs.Decisions.{may}
use Rattle.entry_check.proofs.laws.check_laws.Goals as goal

pub returns : goal.returns
returns c = record { decided = may }
