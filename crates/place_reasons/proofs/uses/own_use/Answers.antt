use Rattle.std.proofs.Common.{ap, ◌∙◌}
use Rattle.place_reasons.specs.Reasons.{pair_at, own_use}
use Rattle.place_reasons.specs.Search.{site_is}
use Rattle.place_reasons.proofs.uses.own_use.Goals as goal

pub returns-in_ok-found-in-None : goal.returns-in_ok-found-in-None
unfolding own_use
returns-in_ok-found-in-None c =
    rw c.in-None.is (c.in_ok-found-in-None.ensures ∙ ap (pair_at (site_is c.args.site.now)) c.label_at-label.ensures)
