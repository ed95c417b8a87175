use Rattle.host_core.proofs.SomeOutcome.{some_taking, some_turn}
use Rattle.host_core.proofs.laws.step_laws.Goals as goal

pub returns : goal.returns
returns c = record { some_taking = some_taking; some_turn = some_turn }
