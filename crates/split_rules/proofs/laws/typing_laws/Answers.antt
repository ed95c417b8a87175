use Rattle.split_rules.proofs.OneNext.{one_next, one_division}
use Rattle.split_rules.proofs.laws.typing_laws.Goals as goal

pub returns : goal.returns
returns c = record { one_next = one_next; one_division = one_division }
