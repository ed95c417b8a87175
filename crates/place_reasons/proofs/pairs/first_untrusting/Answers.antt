use Rattle.std.proofs.Common.{ap₂, ◌∙◌}
use Rattle.place_reasons.specs.Firsts.{or_first}
use Rattle.place_reasons.specs.Reasons.{untrusting}
use Rattle.place_reasons.proofs.Firsts.{first_range_more}
use Rattle.place_reasons.proofs.pairs.first_untrusting.Goals as goal

pub loop-principal-preserved : goal.loop-principal-preserved
loop-principal-preserved c =
    c.or_first-found.ensures ∙ ap₂ or_first c.loop-principal.invariant c.untrusting.ensures
    ∙ first_range_more (untrusting c.args.host.now c.args.label.now) c.loop-principal.principal
