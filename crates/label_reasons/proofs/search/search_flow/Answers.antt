use Rattle.std.proofs.Common.{◌∙◌, refl, ap}
use Rattle.label_lattice.specs.Lattice.{join_of}
use Rattle.jif_tree.specs.Trees.{expr_tree}
use Rattle.jif_tree.specs.LabelRules.{may_flow}
use Rattle.label_reasons.specs.Asks.{StatementSpot, value_ask}
use Rattle.label_reasons.specs.Asks.{cause_at}
use Rattle.label_reasons.specs.Search.{spot_at}
use Rattle.label_reasons.proofs.ShownAsks.{cause_seen, joined_seen}
use Rattle.label_reasons.proofs.search.search_flow.Goals as goal

pub returns : goal.returns
returns c of_pc causes sees =
    let spot : StatementSpot = spot_at c.args.place.now c.args.stand.now c.args.known.now of_pc causes in
    let value = expr_tree c.args.value.now in
    c.offered.ensures (value_ask spot c.args.here c.args.wanted value c.args.to.now) (record {
      statement = refl;
      wanted = refl;
      constraint = ap (λ from. may_flow from c.args.to.now)
          (c.join.ensures.value ∙ ap (λ from. join_of from c.args.stand.now.pc) c.label_of-from.ensures);
      cause = c.or_else.ensures
          ∙ joined_seen c.args.place.now c.args.stand.now c.args.known.now of_pc causes
          c.cause_of-cause.result (cause_at spot c.args.here value c.args.place.now.held) sees (c.cause_of-cause.ensures
          ∙ cause_seen c.args.place.now c.args.stand.now c.args.known.now c.args.here value of_pc causes sees);
    })
