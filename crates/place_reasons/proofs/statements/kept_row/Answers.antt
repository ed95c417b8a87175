use Rattle.std.proofs.Common.{sym, ap, ◌∙◌}
use Rattle.std.specs.Option.{option_map}
use Rattle.place_reasons.specs.declared.reason.PlaceReason.TheVariants as row
use Rattle.place_reasons.specs.Reasons.{pair_at}
use Rattle.place_reasons.specs.Search.{site_is}
use Rattle.place_reasons.proofs.statements.kept_row.Goals as goal

pub returns-in-Some : goal.returns-in-Some
returns-in-Some c =
    rw (c.in-Some-Some.is-0, c.in-Some-Some.is-1) (ap (option_map (λ pair. row.CallGives pair c.args.method))
    (sym c.in-Some.is ∙ c.in_ok-pair-in-Some-Some.ensures ∙ ap (pair_at (site_is c.args.site.now))
    c.label_of-label.ensures))

pub returns-in-None : goal.returns-in-None
returns-in-None c =
    rw (c.in-Some-Some.is-0, c.in-Some-Some.is-1) (ap (option_map (λ pair. row.CallGives pair c.args.method))
    (sym c.in-None.is ∙ c.in_ok-pair-in-Some-Some.ensures ∙ ap (pair_at (site_is c.args.site.now))
    c.label_of-label.ensures))
