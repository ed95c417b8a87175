use Rattle.jif_parse.proofs.SmallNumbers.{program_numbers}
use Rattle.jif_parse.proofs.laws.number_laws.Goals as goal

pub returns : goal.returns
returns c = record { numbers = program_numbers }
