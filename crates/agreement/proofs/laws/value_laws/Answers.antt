use Rattle.agreement.proofs.ValueLaws.{value_same}
use Rattle.agreement.proofs.laws.value_laws.Goals as goal

pub returns : goal.returns
returns c = record { same = value_same }
