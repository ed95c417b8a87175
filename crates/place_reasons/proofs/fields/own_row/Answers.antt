use Rattle.std.proofs.Common.{sym, ap, ◌∙◌}
use Rattle.std.specs.Option.{option_map}
use Rattle.place_reasons.specs.declared.reason.PlaceReason.TheVariants as row
use Rattle.place_reasons.specs.Reasons.{first_pair}
use Rattle.place_reasons.proofs.fields.own_row.Goals as goal

pub returns-in-Some : goal.returns-in-Some
returns-in-Some c =
    ap (option_map (λ pair. row.Own pair)) (sym c.in-Some.is ∙ c.in_ok-pair.ensures
    ∙ ap (λ label. first_pair c.args.principals.now label c.args.host.now) c.field_label-label.ensures)
