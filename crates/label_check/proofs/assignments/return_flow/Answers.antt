use Rattle.label_check.proofs.assignments.return_flow.Goals as goal

pub returns-in-Some-clause-ok : goal.returns-in-Some-clause-ok
returns-in-Some-clause-ok c = rw c.in-Some.is (rw c.variable_label.ensures at c.ask_flow.ensures.ok)

pub returns-in-Some-clause-err : goal.returns-in-Some-clause-err
returns-in-Some-clause-err c = rw c.in-Some.is (rw c.variable_label.ensures at c.ask_flow.ensures.err)
