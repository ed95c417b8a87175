use Rattle.std.proofs.Common.{sym, ap, ◌∙◌}
use Rattle.jif_tree.specs.Trees.{expr_tree}
use Rattle.place_reasons.specs.Firsts.{or_first}
use Rattle.place_reasons.specs.Reasons.{told_in}
use Rattle.place_reasons.specs.Search.{site_is, told_for}
use Rattle.place_reasons.proofs.Firsts.{first_mapped}
use Rattle.place_reasons.proofs.told.told_by.Goals as goal

pub returns-in_ok-told_in_all-in-Call : goal.returns-in_ok-told_in_all-in-Call
returns-in_ok-told_in_all-in-Call c = λ wanted rest within.
    rw c.in-Call.is ((rw c.deref.ensures.value at c.in_ok-told_in_all-in-Call.ensures) wanted within
    ∙ ap (or_first (told_for c.args.found.now wanted))
    (sym (first_mapped (told_in (site_is c.args.site.now) wanted c.args.statement.now.id) expr_tree
    c.in-Call.args.items)))
