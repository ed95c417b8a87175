use Rattle.std.proofs.Common.{◌∙◌, [], ◌∷◌, ◌++◌, refl, ap, ap₂}
use Rattle.label_lattice.specs.Lattice.{join_of}
use Rattle.jif_tree.specs.Trees.{expr_tree}
use Rattle.jif_tree.specs.LabelRules.{may_flow}
use Rattle.label_reasons.specs.Causes.{or_else}
use Rattle.label_reasons.specs.Asks.{StatementSpot, element_ask}
use Rattle.label_reasons.specs.Asks.{expr_asks, cause_at}
use Rattle.label_reasons.specs.Search.{spot_at}
use Rattle.label_reasons.proofs.Searching.{at_then}
use Rattle.label_reasons.proofs.ShownAsks.{cause_seen, joined_seen}
use Rattle.label_reasons.proofs.search.search_element.Goals as goal

pub returns : goal.returns
returns c =
    let index = expr_tree c.args.index.now in
    let value = expr_tree c.args.value.now in
    at_then c.args.place.now c.args.stand.now c.args.known.now
    (λ spot. expr_asks spot c.args.here index ++ expr_asks spot c.args.here value)
    (λ spot. element_ask spot c.args.here c.args.field index value ∷ []) c.args.found.now c.search_expr-2.new.found
    c.offered.result
    (at_then c.args.place.now c.args.stand.now c.args.known.now (λ spot. expr_asks spot c.args.here index)
    (λ spot. expr_asks spot c.args.here value) c.args.found.now c.search_expr.new.found c.search_expr-2.new.found
    c.search_expr.ensures c.search_expr-2.ensures)
    (λ of_pc causes sees.
    let spot : StatementSpot = spot_at c.args.place.now c.args.stand.now c.args.known.now of_pc causes in
    c.offered.ensures (element_ask spot c.args.here c.args.field index value) (record {
      statement = refl;
      wanted = refl;
      constraint = ap₂ may_flow
          (c.join.ensures.value ∙ ap (λ from. join_of from c.args.stand.now.pc)
          (c.join-from.ensures.value ∙ ap₂ join_of c.label_of-at.ensures c.label_of.ensures)) c.field_label.ensures;
      cause = c.or_else-2.ensures ∙ joined_seen c.args.place.now c.args.stand.now c.args.known.now of_pc causes
          c.or_else.result
          (or_else (cause_at spot c.args.here index c.args.place.now.held)
          (cause_at spot c.args.here value c.args.place.now.held)) sees
          (c.or_else.ensures ∙ ap₂ or_else
          (c.cause_of-of_index.ensures ∙ cause_seen c.args.place.now c.args.stand.now c.args.known.now c.args.here index
          of_pc causes sees)
          (c.cause_of-of_value.ensures ∙ cause_seen c.args.place.now c.args.stand.now c.args.known.now c.args.here value
          of_pc causes sees));
    }))
