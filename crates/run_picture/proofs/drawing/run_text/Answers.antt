use Rattle.std.proofs.Common.{◌≡◌, ◌∙◌, ap}
use Rattle.host_decl.specs.Hosts.{HostsShape}
use Rattle.jif_tree.specs.Trees.{program_tree}
use Rattle.front_end.specs.PlacedShapes.{PlacedModel, placed_shape}
use Rattle.front_end.specs.SourceShapes.{SourceModel}
use Rattle.net_world.specs.Fits.{world_of}
use Rattle.run_picture.proofs.RunSources.{text_drawn}
use Rattle.run_picture.proofs.drawing.run_text.Goals as goal

pub returns : goal.returns
returns c =
    let source : SourceModel = record { hosts = c.source.inside.hosts; checked = c.source.inside.checked } in
    let with_source : SourceModel → PlacedModel = λ source. record {
      source = source;
      needs = c.placed.inside.needs;
      allowed = c.placed.inside.allowed;
      plan = c.placed.inside.plan;
    } in
    let same : with_source source ≡ c.args.placed.now = ap with_source c.source.view_is ∙ c.placed.view_is in
    text_drawn c.drawing.result (placed_shape c.args.placed.now) (program_tree source.checked.program)
    c.principals.result.now c.args.code.now c.args.run.now.rows.items c.args.run.now.senders c.args.running.now
    (world_of c.args.world.now) (ap (λ (p : PlacedModel). program_tree p.source.checked.program) same)
    (c.principals.ensures.principals ∙ ap (λ (h : HostsShape). h.principals) c.hosts-hosts.ensures) c.requires.code
    c.drawing.ensures
