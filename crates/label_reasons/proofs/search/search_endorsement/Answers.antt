use Rattle.std.proofs.Common.{◌∙◌, refl, ap}
use Rattle.jif_tree.specs.Trees.{expr_tree}
use Rattle.jif_tree.specs.LabelRules.{may_endorse}
use Rattle.label_reasons.specs.Asks.{StatementSpot, endorse_ask}
use Rattle.label_reasons.specs.Search.{authority_at, spot_at}
use Rattle.label_reasons.proofs.ShownAsks.{cause_seen}
use Rattle.label_reasons.proofs.search.search_endorsement.Goals as goal

pub returns : goal.returns
returns c of_pc causes sees =
    let spot : StatementSpot = spot_at c.args.place.now c.args.stand.now c.args.known.now of_pc causes in
    let value = expr_tree c.args.operand.now in
    c.offered.ensures (endorse_ask spot c.args.here value c.args.to.now) (record {
      statement = refl;
      wanted = refl;
      constraint = ap (λ from. may_endorse (authority_at c.args.place.now) from c.args.to.now) c.label_of-from.ensures;
      cause = c.cause_of.ensures ∙ cause_seen c.args.place.now c.args.stand.now c.args.known.now c.args.here value of_pc
          causes sees;
    })
