use Rattle.jif_grammar.proofs.DueLaws.{due_at_beginning, beginning_of_due}
use Rattle.jif_grammar.proofs.DueEnds.{nothing_due_at_end, program_of_nothing_due}
use Rattle.jif_grammar.proofs.laws.due_laws.Goals as goal

pub returns : goal.returns
returns c = record {
  due_at_beginning = due_at_beginning;
  beginning_of_due = beginning_of_due;
  nothing_due_at_end = nothing_due_at_end;
  program_of_nothing_due = program_of_nothing_due;
}
