use Rattle.jif_tree.proofs.PlainRuns.{plain_run}
use Rattle.jif_tree.proofs.PutBack.{left_kept}
use Rattle.jif_tree.proofs.laws.altered_laws.Goals as goal

pub returns : goal.returns
returns c = record { plain = plain_run; left_kept = left_kept }
