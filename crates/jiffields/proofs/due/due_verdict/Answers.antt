use Rattle.std.proofs.Common.{refl}
use Rattle.std.proofs.lemmas.Result.{IfOk-weaker}
use Rattle.front_end.specs.Verdicts.{verdict_shape}
use Rattle.jiffields.specs.Words.{asked_shape}
use Rattle.jiffields.proofs.DueWords.{verdict_for_words, usage_due}
use Rattle.jiffields.proofs.due.due_verdict.Goals as goal

pub returns-in-Some-clause-due : goal.returns-in-Some-clause-due
returns-in-Some-clause-due g c =
    IfOk-weaker c.verdict_for_asked.result _ _
    (λ verdict due. verdict_for_words _ (asked_shape c.in-Some.asked) _ (verdict_shape verdict) c.in-Some.ensures.found due)
    c.verdict_for_asked.ensures.due

pub returns-in-None-clause-due : goal.returns-in-None-clause-due
returns-in-None-clause-due g c =
    IfOk-weaker c.usage.result _ _
    (λ verdict is. usage_due _ _ (verdict_shape verdict) c.in-None.ensures.none refl refl is)
    c.usage.ensures
