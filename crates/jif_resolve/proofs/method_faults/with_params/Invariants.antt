use Rattle.jif_resolve.specs.Contexts.{setting_in}
use Rattle.jif_resolve.proofs.MethodWalks.{ParamsSoFar}
use Rattle.jif_resolve.proofs.method_faults.with_params.Given as goal

-- the parameters so far
abbrev pub invariant-loop-param : goal.invariant-loop-param
invariant-loop-param l =
    ParamsSoFar (setting_in l.context) l.fn.scope l.fn.first l.params l.param-index l.scope l.sooner_one
