use Rattle.std.proofs.Common.{sym, ap, ◌∙◌}
use Rattle.std.specs.Option.{option_map}
use Rattle.place_reasons.specs.declared.told.Told.TheVariants as told
use Rattle.place_reasons.specs.Reasons.{pair_at}
use Rattle.place_reasons.specs.Search.{site_is}
use Rattle.place_reasons.proofs.told.run_told.Goals as goal

pub returns-in-Some : goal.returns-in-Some
returns-in-Some c =
    ap (option_map (λ pair. told.Read pair c.args.here)) (sym c.in-Some.is ∙ c.in_ok-pair.ensures
    ∙ ap (pair_at (site_is c.args.site.now)) c.pc_at-pc.ensures)
