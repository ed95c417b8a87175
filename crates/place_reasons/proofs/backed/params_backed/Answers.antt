use Rattle.place_reasons.specs.declared.reason.Needed.TheVariants as needed
use Rattle.place_reasons.specs.Reasons.{variable_backed}
use Rattle.place_reasons.specs.Search.{site_is}
use Rattle.place_reasons.proofs.Firsts.{first_more_at}
use Rattle.place_reasons.proofs.backed.params_backed.Goals as goal

pub loop-param-preserved : goal.loop-param-preserved
loop-param-preserved c =
    rw (c.variable_backed.ensures, c.loop-param.invariant)
    (first_more_at (variable_backed (site_is c.args.site.now) c.args.principal c.args.here
    (λ x. needed.Parameter x c.args.method)) c.args.found.now c.args.params.now c.loop-param.param-index _
    c.loop-param-test.true)
