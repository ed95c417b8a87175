use Rattle.std.proofs.Common.{sym, ap, ◌∙◌}
use Rattle.jif_tree.specs.Trees.{expr_tree}
use Rattle.place_reasons.specs.Firsts.{or_first}
use Rattle.place_reasons.specs.Reasons.{used_in}
use Rattle.place_reasons.specs.Search.{site_is}
use Rattle.place_reasons.proofs.Firsts.{first_mapped}
use Rattle.place_reasons.proofs.uses.used_by.Goals as goal

pub returns-in_ok-used_in_all-in-Call : goal.returns-in_ok-used_in_all-in-Call
returns-in_ok-used_in_all-in-Call c rest =
    rw c.in-Call.is ((rw c.deref.ensures.value at c.in_ok-used_in_all-in-Call.ensures)
    ∙ ap (or_first c.args.found.now)
    (sym (first_mapped (used_in (site_is c.args.site.now) c.args.statement.now.id) expr_tree c.in-Call.args.items)))
