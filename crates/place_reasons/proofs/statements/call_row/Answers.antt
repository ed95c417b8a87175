use Rattle.place_reasons.proofs.statements.call_row.Goals as goal

pub returns-in_ok-reason-in-Call : goal.returns-in_ok-reason-in-Call
returns-in_ok-reason-in-Call c = rw c.in-Call.is c.in_ok-reason-in-Call.ensures
