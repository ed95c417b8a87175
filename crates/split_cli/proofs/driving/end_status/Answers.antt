use Rattle.split_cli.specs.Driven.{at_rest, unended}
use Rattle.split_cli.proofs.driving.end_status.Goals as goal

pub returns-in-Some : goal.returns-in-Some
returns-in-Some c = unended _ (rw c.in-Some.is at c.next_event.ensures)

pub returns-in-None : goal.returns-in-None
returns-in-None c = at_rest (rw c.in-None.is at c.next_event.ensures)
