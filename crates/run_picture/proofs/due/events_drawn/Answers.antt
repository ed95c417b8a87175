use Rattle.std.proofs.Common.{◌∙◌}
use Rattle.front_end.specs.PlacedShapes.{placed_shape}
use Rattle.front_end.specs.Stages.{stopped}
use Rattle.front_end.proofs.Stages.{stops_weaker}
use Rattle.net_world.specs.Fits.{world_of}
use Rattle.script_stages.specs.Scripts.{AreRefused}
use Rattle.run_picture.specs.RunDue.{EventsDrawn}
use Rattle.run_picture.proofs.RunSources.{drawn_as, refused_as}
use Rattle.run_picture.proofs.due.events_drawn.Goals as goal

pub returns : goal.returns
returns c =
    let file = c.args.name.now in
    let placed = placed_shape c.args.placed.now in
    let code = c.args.code.now in
    let first = world_of c.args.first in
    let said = c.args.events.now in
    stops_weaker (AreRefused file code first said) (λ verdict. EventsDrawn file placed first said (stopped verdict))
    c.events_refused.result
    (λ verdict is. refused_as file placed code first said verdict c.requires.code is)
    (c.events_refused.ensures code first said c.in-Err.ensures.refused)

pub returns-in-Ok : goal.returns-in-Ok
returns-in-Ok c =
    let code = c.args.code.now in
    let first = world_of c.args.first in
    drawn_as c.args.name.now (placed_shape c.args.placed.now) code first c.args.events.now _ _ _ _ c.requires.code
    (c.as_slice.ensures.value ∙ c.in_ok-running.ensures) c.in-Ok.ensures.pictured
    c.in_ok-run_text-in-Ok.ensures
