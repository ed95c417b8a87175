use Rattle.releasing_statements.proofs.Marking.{as_many_marks, marked_by_number, marked_numbers}
use Rattle.releasing_statements.proofs.laws.release_laws.Goals as goal

pub returns-clause-as_many : goal.returns-clause-as_many
returns-clause-as_many c = as_many_marks

pub returns-clause-numbers : goal.returns-clause-numbers
returns-clause-numbers c = marked_numbers

pub returns-clause-by_number : goal.returns-clause-by_number
returns-clause-by_number c = marked_by_number
