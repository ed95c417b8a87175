use Rattle.split_rules.proofs.PacedSplit.{split_is_paced, split_runs_few}
use Rattle.split_rules.proofs.laws.pace_laws.Goals as goal

pub returns : goal.returns
returns c = record { paced = split_is_paced; runs_few = split_runs_few }
