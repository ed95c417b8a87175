use Rattle.jif_resolve.proofs.Limited.{draft_keeps}
use Rattle.jif_resolve.proofs.ReturnedLast.{returned_last}
use Rattle.jif_resolve.proofs.WithinLimits.{program_within}
use Rattle.jif_resolve.proofs.laws.limit_laws.Goals as goal

pub returns : goal.returns
returns c = record { kept = draft_keeps; returns = returned_last; within = program_within }
