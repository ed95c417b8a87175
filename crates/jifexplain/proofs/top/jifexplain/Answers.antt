use Rattle.std.specs.Prelude.{codes}
use Rattle.front_end.proofs.Answering.{answers_to}
use Rattle.jifexplain.proofs.top.jifexplain.Goals as goal

pub returns-clause-answer : goal.returns-clause-answer
returns-clause-answer g c =
    answers_to (codes "jifexplain") _ _ c.due_verdict-found.result _ _ _ tt c.due_verdict-found.ensures.due c.answer.ensures.due c.answer.ensures.undue
