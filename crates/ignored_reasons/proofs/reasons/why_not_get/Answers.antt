-- The field is on this host, and then the sender sees it or does not.
use Rattle.std.proofs.Common.{Option, [], ◌∷◌, subst, sym, inl}
use Rattle.js_base.specs.declared.ids.HostId.{HostId}
use Rattle.ignored_reasons.specs.declared.why.Why.{Why}
use Rattle.ignored_reasons.specs.declared.why.Why.TheVariants as reason
use Rattle.ignored_reasons.specs.Parts.{IsFieldOn}
use Rattle.ignored_reasons.specs.Reasons.{PartHolds, IsFirstFalse}
use Rattle.ignored_reasons.proofs.FirstFalse.{last_part}
use Rattle.ignored_reasons.proofs.reasons.why_not_get.Goals as goal

pub returns : goal.returns
returns c =
    let code = c.args.code.now in
    let field = c.args.field in
    let on = c.is_field_on.ensures.0 c.if-not-is_field_on.false in
    λ host taken here. inl (
      subst (λ (me : HostId). IsFieldOn code me field) (sym here) on,
      subst (λ (found : Option Why). IsFirstFalse (PartHolds code host c.args.from taken)
          (reason.MayNotSee field ∷ []) found)
          (sym c.unless.ensures)
          (last_part (PartHolds code host c.args.from taken) (reason.MayNotSee field) c.sees_field.result
          c.sees_field.ensures),
    )
