use Rattle.std.proofs.Common.{ap}
use Rattle.net_world.specs.World.{WorldShape}
use Rattle.run_picture.proofs.due.verdict_for_said.Goals as goal

pub events_drawn-requires-clause-nothing : goal.events_drawn-requires-clause-nothing
events_drawn-requires-clause-nothing c = λ from to.
    ap (λ (w : WorldShape). w.flying from to) c.in_ok-first.ensures.first
