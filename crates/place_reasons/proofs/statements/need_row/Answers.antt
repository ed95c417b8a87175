use Rattle.std.proofs.Common.{ap, ◌∙◌}
use Rattle.jif_tree.specs.Trees.{done, tree_before}
use Rattle.place_reasons.specs.Firsts.{or_first}
use Rattle.place_reasons.specs.Reasons.{need_of}
use Rattle.place_reasons.specs.Search.{site_is}
use Rattle.place_reasons.proofs.Firsts.{first_range_more}
use Rattle.place_reasons.proofs.statements.need_row.Goals as goal

pub loop-principal-preserved : goal.loop-principal-preserved
loop-principal-preserved c =
    c.or_need-found.ensures ∙ ap (λ found. or_first found (need_of (site_is c.args.site.now)
    (tree_before c.args.statement.now done) c.loop-principal.principal)) c.loop-principal.invariant
    ∙ first_range_more (need_of (site_is c.args.site.now) (tree_before c.args.statement.now done))
    c.loop-principal.principal
