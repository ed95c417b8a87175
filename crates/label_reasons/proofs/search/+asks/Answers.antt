use Rattle.std.proofs.Common.{[], ◌∷◌}
use Rattle.jif_tree.specs.Trees.{expr_tree}
use Rattle.label_reasons.specs.Asks.{expr_asks, release_ask, trust_ask, endorse_ask}
use Rattle.label_reasons.proofs.Searching.{at_then}
use Rattle.label_reasons.proofs.search.+asks.Goals as goal

pub returns-in-Element : goal.returns-in-Element
returns-in-Element t c = rw (c.in-Element.is, ← c.deref.ensures) c.search_expr.ensures

pub returns-in-Not : goal.returns-in-Not
returns-in-Not t c = rw (c.in-Not.is, ← c.deref-in-Not.ensures) c.search_expr-in-Not.ensures

pub returns-in-Negate : goal.returns-in-Negate
returns-in-Negate t c = rw (c.in-Negate.is, ← c.deref-in-Negate.ensures) c.search_expr-in-Negate.ensures

pub returns-in-Binary : goal.returns-in-Binary
returns-in-Binary t c =
    rw c.in-Binary.is (at_then c.args.place.now c.args.stand.now c.args.known.now
    (λ spot. expr_asks spot c.args.here (expr_tree c.in-Binary.left.value))
    (λ spot. expr_asks spot c.args.here (expr_tree c.in-Binary.right.value))
    c.args.found.now c.search_expr-in-Binary.new.found c.search_expr-in-Binary-2.new.found
    (rw c.deref-in-Binary.ensures at c.search_expr-in-Binary.ensures)
    (rw c.deref-in-Binary-2.ensures at c.search_expr-in-Binary-2.ensures))

pub returns-in-Declassify : goal.returns-in-Declassify
returns-in-Declassify t c =
    rw c.in-Declassify.is (at_then c.args.place.now c.args.stand.now c.args.known.now
    (λ spot. expr_asks spot c.args.here (expr_tree c.in-Declassify.operand.value))
    (λ spot. release_ask spot c.args.here (expr_tree c.in-Declassify.operand.value) c.in-Declassify.to.value
    ∷ trust_ask spot c.args.here ∷ [])
    c.args.found.now c.search_expr-in-Declassify.new.found c.search_release.new.found
    (rw c.deref-in-Declassify.ensures at c.search_expr-in-Declassify.ensures)
    (rw (c.deref-in-Declassify-2.ensures, c.deref-in-Declassify-3.ensures) at c.search_release.ensures))

pub returns-in-Endorse : goal.returns-in-Endorse
returns-in-Endorse t c =
    rw c.in-Endorse.is (at_then c.args.place.now c.args.stand.now c.args.known.now
    (λ spot. expr_asks spot c.args.here (expr_tree c.in-Endorse.operand.value))
    (λ spot. endorse_ask spot c.args.here (expr_tree c.in-Endorse.operand.value) c.in-Endorse.to.value ∷ [])
    c.args.found.now c.search_expr-in-Endorse.new.found c.search_endorsement.new.found
    (rw c.deref-in-Endorse.ensures at c.search_expr-in-Endorse.ensures)
    (rw (c.deref-in-Endorse-2.ensures, c.deref-in-Endorse-3.ensures) at c.search_endorsement.ensures))
