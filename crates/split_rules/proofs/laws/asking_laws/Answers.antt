use Rattle.split_rules.proofs.AskingSplit.{split_is_granted, split_tells_no_more}
use Rattle.split_rules.proofs.laws.asking_laws.Goals as goal

pub returns : goal.returns
returns c = record { granted = split_is_granted; tells = split_tells_no_more }
