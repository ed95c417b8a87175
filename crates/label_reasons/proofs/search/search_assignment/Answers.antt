use Rattle.std.proofs.Common.{◌∙◌, refl, ap, ap₂}
use Rattle.label_lattice.specs.Lattice.{join_of}
use Rattle.jif_tree.specs.Trees.{expr_tree}
use Rattle.jif_tree.specs.LabelRules.{labels_after_assignment, may_flow, variable_label}
use Rattle.label_reasons.specs.Causes.{or_else, causes_after_assignment}
use Rattle.label_reasons.specs.Asks.{StatementSpot}
use Rattle.label_reasons.specs.Asks.{cause_at}
use Rattle.label_reasons.specs.Search.{listed_cause, spot_at}
use Rattle.label_reasons.proofs.Walking.{local_walks}
use Rattle.label_reasons.proofs.ShownAsks.{cause_seen, joined_seen}
use Rattle.label_reasons.proofs.search.search_assignment.Goals as goal

pub returns : goal.returns
returns c rest line =
    let value = expr_tree c.args.value.now in
    let old = c.args.known.now in
    let label = c.join-label.ensures.value ∙ ap (λ from. join_of from c.args.stand.now.pc) c.label_of.ensures in
    let labels = c.assign.ensures.labels
    ∙ ap (λ from. labels_after_assignment old.labels.items c.args.var from) label in
    let cause = c.or_else-cause.ensures ∙ ap (λ one. or_else one c.args.stand.now.of_pc) c.cause_of.ensures in
    local_walks c.args.place.now c.args.stand.now old c.assign.new.known c.args.found.now c.search_expr.new.found
    c.offered.result (record { id = c.args.here; line = line }) c.args.var value rest labels
    (λ y. c.assign.ensures.causes y ∙ ap (λ one. causes_after_assignment old.labels.items
    (listed_cause old.causes.items) c.args.var c.args.here one y) cause) c.assign.ensures.long c.search_expr.ensures
    (λ of_pc causes sees.
    let spot : StatementSpot = spot_at c.args.place.now c.args.stand.now c.args.known.now of_pc causes in
    c.offered.ensures _ (record {
      statement = refl;
      wanted = refl;
      constraint = ap₂ may_flow label
          (c.variable_in.ensures ∙ ap (λ list. variable_label list c.args.var) labels);
      cause = c.or_else-cause.ensures ∙ joined_seen c.args.place.now c.args.stand.now c.args.known.now of_pc causes
          c.cause_of.result (cause_at spot c.args.here value c.args.place.now.held) sees
          (c.cause_of.ensures ∙ cause_seen c.args.place.now c.args.stand.now c.args.known.now c.args.here value of_pc
          causes sees);
    }))
