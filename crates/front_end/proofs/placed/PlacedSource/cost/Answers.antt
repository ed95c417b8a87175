use Rattle.std.proofs.Common.{◌≡◌, ◌∙◌, ap}
use Rattle.msg_cost.specs.Cost.{plan_cost}
use Rattle.need_labels.specs.Labelled as needs
use Rattle.front_end.specs.PlacedCode.{cost_of}
use Rattle.front_end.specs.PlacedShapes.{PlacedModel, placed_shape}
use Rattle.front_end.specs.SourceShapes.{SourceModel}
use Rattle.front_end.proofs.placed.PlacedSource.cost.Goals as goal

pub returns : goal.returns
returns c =
    let source : SourceModel = record { hosts = c.source.inside.hosts; checked = c.source.inside.checked } in
    let with_source : SourceModel → PlacedModel = λ source. record {
      source = source;
      needs = c.self.inside.needs;
      allowed = c.self.inside.allowed;
      plan = c.self.inside.plan;
    } in
    let same : with_source source ≡ c.args.self.now = ap with_source c.source.view_is ∙ c.self.view_is in
    c.cost.ensures.cost
    ∙ ap (λ (seen : needs.Labelled). plan_cost seen c.self.inside.needs source.hosts c.self.inside.plan)
    c.source.invariant.labelled
    ∙ ap (λ (placed : PlacedModel). cost_of (placed_shape placed)) same
