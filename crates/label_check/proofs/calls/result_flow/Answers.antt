use Rattle.label_check.proofs.calls.result_flow.Goals as goal

pub returns-in-Some-Some-clause-ok : goal.returns-in-Some-Some-clause-ok
returns-in-Some-Some-clause-ok c =
    rw (c.in-Some-Some.is-0, c.in-Some-Some.is-1)
    (rw (c.variable_label.ensures, c.variable_label-in-Some-Some.ensures) at c.ask_flow.ensures.ok)

pub returns-in-Some-Some-clause-err : goal.returns-in-Some-Some-clause-err
returns-in-Some-Some-clause-err c =
    rw (c.in-Some-Some.is-0, c.in-Some-Some.is-1)
    (rw (c.variable_label.ensures, c.variable_label-in-Some-Some.ensures) at c.ask_flow.ensures.err)
