use Rattle.std.proofs.Common.{sym, ◌∙◌}
use Rattle.std.proofs.lemmas.Bool.{false≢true}
use Rattle.run_comparison.proofs.SameMessages.{tells_none, tells_rest}
use Rattle.run_comparison.proofs.message_parts.is_same_without_riders.Goals as goal

pub returns-then-not-is_same_parts : goal.returns-then-not-is_same_parts
returns-then-not-is_same_parts c =
    tells_none _ _ _ _ c.parts_of-here.ensures c.parts_of-there.ensures
    (λ same. false≢true (sym c.if-not-is_same_parts.true ∙ c.is_same_parts.ensures.1 same))
    (λ same. same, λ same. same)

pub returns : goal.returns
returns c =
    tells_rest _ _ _ _ _ _ _ _ c.is_same_token.result c.parts_of-here.ensures c.parts_of-there.ensures
    c.token_of.ensures c.token_of-2.ensures
    (c.is_same_parts.ensures.0 c.if-not-is_same_parts.false) c.is_same_token.ensures
    (λ same. same, λ same. same)
