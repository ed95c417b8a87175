use Rattle.std.specs.Prelude.{codes}
use Rattle.front_end.proofs.Answering.{answers_to}
use Rattle.launch.proofs.Causes.{before_due, child_cause}
use Rattle.launch.proofs.top.jifrun.Goals as goal

pub returns-clause-answer : goal.returns-clause-answer
returns-clause-answer g c =
    answers_to (codes "jifrun") _ _ c.due_verdict-found.result _ _ _
    (before_due _ _ _ _ c.due_verdict-found.result c.due_verdict-found.ensures.due c.due_verdict-found.ensures.undue)
    c.due_verdict-found.ensures.due c.answer.ensures.due c.answer.ensures.undue

pub returns-clause-child_cause : goal.returns-clause-child_cause
returns-clause-child_cause g c =
    child_cause (codes "jifrun") _ _ _ _ _ c.answer.result _ _ (returns-clause-answer g c)
