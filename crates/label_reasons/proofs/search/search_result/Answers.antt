use Rattle.std.proofs.Common.{◌∙◌, refl, ap, ap₂}
use Rattle.label_lattice.specs.Lattice.{join_of}
use Rattle.jif_tree.specs.LabelRules.{may_flow, variable_label}
use Rattle.label_reasons.specs.Causes.{cause_where}
use Rattle.label_reasons.specs.Asks.{StatementSpot}
use Rattle.label_reasons.specs.Asks.{result_ask}
use Rattle.label_reasons.specs.declared.reason.Source.TheVariants.{OfVariable}
use Rattle.label_reasons.specs.Traits.{has}
use Rattle.label_reasons.specs.Search.{spot_at}
use Rattle.label_reasons.proofs.ShownAsks.{joined_seen}
use Rattle.label_reasons.proofs.search.search_result.Goals as goal

pub returns : goal.returns
returns c =
    rw (← c.in-Some-Some.ensures.tree, c.in-Some-Some.is-1) (λ of_pc causes sees.
    let spot : StatementSpot = spot_at c.args.place.now c.args.stand.now c.args.known.now of_pc causes in
    let label = variable_label c.args.known.now.labels.items c.in-Some-Some.result in
    c.offered.ensures (result_ask spot c.args.here c.args.method c.in-Some-Some.result c.in-Some-Some.into) (record {
      statement = refl;
      wanted = refl;
      constraint = ap₂ may_flow
          (c.join.ensures.value ∙ ap (λ from. join_of from c.args.stand.now.pc) c.variable_in-from.ensures)
          c.variable_in.ensures;
      cause = c.or_else.ensures ∙ joined_seen c.args.place.now c.args.stand.now c.args.known.now of_pc causes
          c.cause_where-cause.result
          (cause_where (has c.args.place.now.held label) (OfVariable c.in-Some-Some.result)) sees
          (c.cause_where-cause.ensures ∙ ap (λ one. cause_where (has c.args.place.now.held one)
          (OfVariable c.in-Some-Some.result)) c.variable_in-from.ensures);
    }))
