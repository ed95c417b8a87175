use Rattle.std.proofs.Common.{◌∙◌, [], ◌∷◌, refl, sym, ap}
use Rattle.jif_tree.specs.Trees.{expr_tree}
use Rattle.jif_tree.specs.LabelRules.{may_release}
use Rattle.label_reasons.specs.Asks.{StatementSpot, release_ask, trust_ask}
use Rattle.label_reasons.specs.Search.{authority_at, spot_at}
use Rattle.label_reasons.proofs.Searching.{finds_two}
use Rattle.label_reasons.proofs.ShownAsks.{cause_seen}
use Rattle.label_reasons.proofs.search.search_release.Goals as goal

pub returns : goal.returns
returns c of_pc causes sees =
    let spot : StatementSpot = spot_at c.args.place.now c.args.stand.now c.args.known.now of_pc causes in
    let value = expr_tree c.args.operand.now in
    finds_two c.args.place.now (release_ask spot c.args.here value c.args.to.now ∷ []) (trust_ask spot c.args.here ∷ [])
    c.args.found.now c.offered.result c.offered-2.result
    (c.offered.ensures (release_ask spot c.args.here value c.args.to.now) (record {
      statement = refl;
      wanted = refl;
      constraint = ap (λ from. may_release (authority_at c.args.place.now) from c.args.to.now) c.label_of-from.ensures;
      cause = c.cause_of.ensures ∙ cause_seen c.args.place.now c.args.stand.now c.args.known.now c.args.here value of_pc
          causes sees;
    }))
    (c.offered-2.ensures (trust_ask spot c.args.here) (record {
      statement = refl;
      wanted = refl;
      constraint = refl;
      cause = sym sees.of_pc_is;
    }))
