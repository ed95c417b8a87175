use Rattle.place_texts.proofs.lines.reason_of.Goals as goal

pub returns-in-Statement-clause-reason : goal.returns-in-Statement-clause-reason
returns-in-Statement-clause-reason c = rw c.in-Statement.is c.statement_reason.ensures.reason
