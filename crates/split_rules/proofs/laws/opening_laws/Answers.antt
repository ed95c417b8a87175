use Rattle.split_rules.proofs.CoveredRuns.{split_covers_runs}
use Rattle.split_rules.proofs.OpenCode.{split_is_open, split_has_own_labels}
use Rattle.split_rules.proofs.laws.opening_laws.Goals as goal

pub returns : goal.returns
returns c = record { opens = split_is_open; labels = split_has_own_labels; covers = split_covers_runs }
