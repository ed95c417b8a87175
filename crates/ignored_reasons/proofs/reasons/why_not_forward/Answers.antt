-- There is one part.
use Rattle.std.proofs.Common.{Option, [], ◌∷◌, subst, sym}
use Rattle.ignored_reasons.specs.declared.why.Why.{Why}
use Rattle.ignored_reasons.specs.declared.why.Why.TheVariants as reason
use Rattle.ignored_reasons.specs.Reasons.{PartHolds, IsFirstFalse}
use Rattle.ignored_reasons.proofs.FirstFalse.{last_part}
use Rattle.ignored_reasons.proofs.reasons.why_not_forward.Goals as goal

pub returns : goal.returns
returns c =
    let code = c.args.code.now in
    let part : Why = reason.MayNotForward c.args.var in
    λ host taken. subst
    (λ (found : Option Why). IsFirstFalse (PartHolds code host c.args.from taken) (part ∷ []) found)
    (sym c.unless.ensures)
    (last_part (PartHolds code host c.args.from taken) part c.sets_variable.result c.sets_variable.ensures)
