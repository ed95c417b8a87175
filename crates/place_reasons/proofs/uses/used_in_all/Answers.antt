use Rattle.std.proofs.Common.{ap, ◌∙◌}
use Rattle.jif_tree.specs.Trees.{expr_tree}
use Rattle.place_reasons.specs.Firsts.{or_first}
use Rattle.place_reasons.specs.Reasons.{used_in}
use Rattle.place_reasons.specs.Search.{site_is}
use Rattle.place_reasons.proofs.Firsts.{first_more}
use Rattle.place_reasons.proofs.uses.used_in_all.Goals as goal

pub loop-value-preserved : goal.loop-value-preserved
loop-value-preserved c =
    c.in_ok-used_in.ensures ∙ ap (λ found. or_first found (used_in (site_is c.args.site.now) c.args.here
    (expr_tree c.value-item.result))) c.loop-value.invariant
    ∙ first_more (λ value. used_in (site_is c.args.site.now) c.args.here (expr_tree value))
    c.args.found.now c.args.values.now c.loop-value.value-index c.value-item.result c.loop-value-test.true
    c.value-item.is
