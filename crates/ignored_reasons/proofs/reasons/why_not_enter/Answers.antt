-- The parts before the first that is false hold.
use Rattle.std.proofs.Common.{Option, [], ◌∷◌, subst, sym, inl, inr, refl}
use Rattle.js_base.specs.declared.ids.HostId.{HostId}
use Rattle.host_code.specs.Sound.{IsEntryOn}
use Rattle.ignored_reasons.specs.declared.why.Why.{Why}
use Rattle.ignored_reasons.specs.declared.why.Why.TheVariants as reason
use Rattle.ignored_reasons.specs.Reasons.{PartHolds, IsFirstFalse}
use Rattle.ignored_reasons.proofs.FirstFalse.{last_part, untrue}
use Rattle.ignored_reasons.proofs.reasons.why_not_enter.Goals as goal

pub returns-then-not-is_trusted_at : goal.returns-then-not-is_trusted_at
returns-then-not-is_trusted_at c =
    let on = c.is_entry_on.ensures.0 c.if-not-is_entry_on.false in
    λ host taken here. inl (
      subst (λ (me : HostId). IsEntryOn c.args.code.now me c.args.entry) (sym here) on,
      inr (untrue _ c.is_trusted_at.ensures c.if-not-is_trusted_at.true, refl),
    )

pub returns : goal.returns
returns c =
    let code = c.args.code.now in
    let on = c.is_entry_on.ensures.0 c.if-not-is_entry_on.false in
    let trusted = c.is_trusted_at.ensures.0 c.if-not-is_trusted_at.false in
    let part : Why = reason.MayNotKnow c.args.entry in
    λ host taken here. inl (
      subst (λ (me : HostId). IsEntryOn code me c.args.entry) (sym here) on,
      inl (
        trusted,
        subst (λ (found : Option Why). IsFirstFalse (PartHolds code host c.args.from taken) (part ∷ []) found)
            (sym c.unless.ensures)
            (last_part (PartHolds code host c.args.from taken) part c.knows_of.result c.knows_of.ensures),
      ),
    )
