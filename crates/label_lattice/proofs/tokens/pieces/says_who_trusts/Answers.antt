use Rattle.std.proofs.Common.{◌∙◌, ◌∷◌, ap}
use Rattle.label_lattice.specs.Written.{kinds}
use Rattle.label_lattice.proofs.tokens.pieces.says_who_trusts.Goals as goal

pub returns-in-Some-clause-yes : goal.returns-in-Some-clause-yes
returns-in-Some-clause-yes c said = (
  kinds c.in-Some.field-0-1.now,
  ap kinds c.in-Some.ensures.cases.0
      ∙ ap (λ kind. kind ∷ kinds c.in-Some.field-0-1.now) (c.is_symbol.ensures.0 said),
)
