use Rattle.std.proofs.Common.{◌≡◌, ◌∙◌, ap, sym, subst}
use Rattle.need_labels.specs.Labelled.{labelled_of}
use Rattle.split_rules.specs.Splittable.{IsSplittable}
use Rattle.front_end.specs.PlacedCode.{program_of}
use Rattle.front_end.specs.PlacedShapes.{PlacedModel, placed_shape}
use Rattle.front_end.specs.PlacedSources.{labelled_source}
use Rattle.front_end.specs.SourceShapes.{SourceModel, source_shape}
use Rattle.front_end.proofs.placed_code.releases_of.Goals as goal

pub returns : goal.returns
returns c =
    let source : SourceModel = record { hosts = c.source.inside.hosts; checked = c.source.inside.checked } in
    let with_source : SourceModel → PlacedModel = λ source. record {
      source = source;
      needs = c.placed.inside.needs;
      allowed = c.placed.inside.allowed;
      plan = c.placed.inside.plan;
    } in
    let same : with_source source ≡ c.args.placed.now = ap with_source c.source.view_is ∙ c.placed.view_is in
    let program = program_of (placed_shape c.args.placed.now) in
    let labelled : program.labelled ≡ labelled_of c.source.inside.checked =
    sym (c.source.invariant.labelled ∙ ap (λ (it : PlacedModel). labelled_source (source_shape it.source)) same) in
    let splittable : IsSplittable program =
    subst (λ (it : PlacedModel). IsSplittable (program_of (placed_shape it))) c.placed.view_is
    c.placed.invariant.splittable in
    c.releases_in.ensures.table program labelled splittable c.requires.code
