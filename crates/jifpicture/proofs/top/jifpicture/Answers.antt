use Rattle.std.specs.Prelude.{codes}
use Rattle.front_end.proofs.Answering.{answers_to}
use Rattle.jifpicture.proofs.Completeness.{complete}
use Rattle.jifpicture.proofs.top.jifpicture.Goals as goal

pub returns-clause-answer : goal.returns-clause-answer
returns-clause-answer g c =
    answers_to (codes "jifpicture") _ _ c.due_verdict-found.result _ _ _ tt c.due_verdict-found.ensures.due c.answer.ensures.due c.answer.ensures.undue

pub returns-clause-complete : goal.returns-clause-complete
returns-clause-complete g c = λ holds number status text tells due calm below quiet under.
    complete c.picture_laws.ensures.one_verdict _ _ _ _ _ holds number status text (returns-clause-answer g c) tells due
    calm below quiet under
