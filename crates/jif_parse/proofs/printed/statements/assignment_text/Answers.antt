use Rattle.std.proofs.lemmas.List.{append_assoc}
use Rattle.std.proofs.Common.{ap, List, ℕ, ◌++◌, ◌∷◌, [], ◌∙◌}
use Rattle.jif_parse.proofs.printed.statements.assignment_text.Goals as goal

pub returns : goal.returns
returns c =
    simp append_assoc (c.in_ok-format.ensures.ok
    ∙ ap (λ (t : List ℕ). c.args.name.now ++ 32 ∷ 61 ∷ 32 ∷ (t ++ 59 ∷ 10 ∷ [])) c.in_ok-value.ensures)
