use Rattle.std.proofs.Common.{◌∙◌, sym}
use Rattle.plan_layout.specs.Lines.{same_hub}
use Rattle.plan_layout.proofs.Walks.{no_place}
use Rattle.plan_layout.proofs.strips.place_in.Goals as goal

pub returns-in-None : goal.returns-in-None
returns-in-None c =
    c.len.ensures.len ∙ sym (no_place (same_hub c.args.hub) c.args.hubs.now.keys c.in-None.ensures.index)
