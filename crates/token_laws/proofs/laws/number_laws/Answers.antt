use Rattle.token_laws.proofs.WorldNumbers.{known_numbers}
use Rattle.token_laws.proofs.laws.number_laws.Goals as goal

pub returns : goal.returns
returns c = record { numbers = known_numbers }
