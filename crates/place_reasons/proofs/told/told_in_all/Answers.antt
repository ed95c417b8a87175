use Rattle.std.proofs.Common.{◌<◌, length, ap, ◌∙◌, rules}
use Rattle.jif_tree.specs.Trees.{expr_tree}
use Rattle.place_reasons.specs.Firsts.{or_first}
use Rattle.place_reasons.specs.Reasons.{told_in}
use Rattle.place_reasons.specs.Search.{site_is, told_for}
use Rattle.place_reasons.proofs.Firsts.{first_more}
use Rattle.place_reasons.proofs.told.told_in_all.Goals as goal

pub loop-value-preserved : goal.loop-value-preserved
loop-value-preserved c = λ wanted within.
    let there : wanted.0 < length c.loop-value.found = search rules in
    c.in_ok-told_in.ensures wanted there
    ∙ ap (λ found. or_first found (told_in (site_is c.args.site.now) wanted c.args.here
    (expr_tree c.value-item.result))) (c.loop-value.invariant wanted within)
    ∙ first_more (λ value. told_in (site_is c.args.site.now) wanted c.args.here (expr_tree value))
    (told_for c.args.found.now wanted) c.args.values.now c.loop-value.value-index c.value-item.result
    c.loop-value-test.true c.value-item.is
