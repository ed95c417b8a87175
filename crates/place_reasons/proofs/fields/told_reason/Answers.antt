use Rattle.std.proofs.Common.{subst}
use Rattle.label_reasons.specs.Traits.{IsTrait}
use Rattle.place_reasons.specs.declared.told.Told.{Told}
use Rattle.place_reasons.specs.Search.{told_pair}
use Rattle.place_reasons.proofs.fields.told_reason.Goals as goal

pub answer_at-requires-clause-held : goal.answer_at-requires-clause-held
answer_at-requires-clause-held c =
    let P : Told → Type 0 = λ told. IsTrait (told_pair told) in
    subst P c.in-Read.is c.requires.held

pub answer_at-requires-in-Index-clause-held : goal.answer_at-requires-in-Index-clause-held
answer_at-requires-in-Index-clause-held c =
    let P : Told → Type 0 = λ told. IsTrait (told_pair told) in
    subst P c.in-Index.is c.requires.held
