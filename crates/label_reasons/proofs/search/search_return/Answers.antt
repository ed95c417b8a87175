use Rattle.std.proofs.Common.{[], ◌∷◌}
use Rattle.jif_tree.specs.Trees.{expr_tree}
use Rattle.jif_tree.specs.LabelRules.{variable_label}
use Rattle.label_reasons.specs.declared.reason.Wanted.TheVariants.{GivenBack}
use Rattle.label_reasons.specs.Asks.{value_ask}
use Rattle.label_reasons.specs.Asks.{expr_asks}
use Rattle.label_reasons.specs.Search.{authority_at}
use Rattle.label_reasons.proofs.Searching.{finds_none, at_then}
use Rattle.label_reasons.proofs.search.search_return.Goals as goal

pub returns-in-Some : goal.returns-in-Some
returns-in-Some c =
    rw c.in-Some.is (at_then c.args.place.now c.args.stand.now c.args.known.now
    (λ spot. expr_asks spot c.args.here (expr_tree c.args.value.now))
    (λ spot. value_ask spot c.args.here (GivenBack c.in-Some.result) (expr_tree c.args.value.now)
    (variable_label spot.labels c.in-Some.result) ∷ []) c.args.found.now c.search_expr.new.found
    c.search_flow.new.found c.search_expr.ensures (rw c.variable_in-to.ensures at c.search_flow.ensures))

pub returns-in_default : goal.returns-in_default
returns-in_default c =
    rw c.in_default.is (at_then c.args.place.now c.args.stand.now c.args.known.now
    (λ spot. expr_asks spot c.args.here (expr_tree c.args.value.now)) (λ spot. []) c.args.found.now
    c.search_expr.new.found c.search_expr.new.found c.search_expr.ensures
    (λ of_pc causes sees. finds_none c.args.place.now.principals.now c.args.place.now.held
    (authority_at c.args.place.now) c.search_expr.new.found))
