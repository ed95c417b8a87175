use Rattle.std.proofs.Common.{◌∙◌}
use Rattle.std.proofs.lemmas.Result.{IfOk-weaker}
use Rattle.explain_texts.specs.Remedies.{unexpected_remedy}
use Rattle.explain_texts.proofs.Pieces.{at_three}
use Rattle.explain_texts.proofs.heads.remedy_of.Goals as goal

pub returns : goal.returns
returns c =
    IfOk-weaker c.unexpected_remedy.result _ _
    (λ text is. is ∙ at_three unexpected_remedy _ _ _ _ _ _ (c.as_str.ensures.value ∙ c.in_ok-first.ensures)
    (c.as_str-2.ensures.value ∙ c.in_ok-second.ensures) (c.as_str-3.ensures.value ∙ c.in_ok-third.ensures))
    c.unexpected_remedy.ensures
