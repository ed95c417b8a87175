use Rattle.std.proofs.Common.{[], ◌∷◌}
use Rattle.jif_tree.specs.Trees.{expr_tree}
use Rattle.label_reasons.specs.Asks.{value_ask}
use Rattle.label_reasons.specs.Asks.{expr_asks}
use Rattle.label_reasons.proofs.Searching.{at_then}
use Rattle.label_reasons.proofs.search.search_value.Goals as goal

pub returns : goal.returns
returns c =
    at_then c.args.place.now c.args.stand.now c.args.known.now
    (λ spot. expr_asks spot c.args.here (expr_tree c.args.value.now))
    (λ spot. value_ask spot c.args.here c.args.wanted (expr_tree c.args.value.now) c.args.to.now ∷ [])
    c.args.found.now c.search_expr.new.found c.search_flow.new.found c.search_expr.ensures c.search_flow.ensures
