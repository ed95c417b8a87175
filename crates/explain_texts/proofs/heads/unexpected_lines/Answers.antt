use Rattle.std.proofs.Common.{◌∙◌, ℕ}
use Rattle.std.proofs.lemmas.Result.{IfOk-weaker}
use Rattle.explain_texts.specs.Remedies.{unexpected_remedy}
use Rattle.explain_texts.specs.TokenTexts.{token_text}
use Rattle.explain_texts.proofs.Pieces.{at_two}
use Rattle.explain_texts.proofs.heads.unexpected_lines.Goals as goal

pub returns : goal.returns
returns c =
    IfOk-weaker c.remedy_of.result _ _
    (λ text is. is ∙ at_two (λ (a b : ℕ). unexpected_remedy (token_text c.args.tokens.now a)
    (token_text c.args.tokens.now b) (token_text c.args.tokens.now c.args.number)) _ _ _ _ c.earlier.ensures
    c.earlier-2.ensures) c.remedy_of.ensures
