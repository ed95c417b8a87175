use Rattle.jif_resolve.proofs.Methods.{ParamIdsSoFar}
use Rattle.jif_resolve.proofs.method_of.params_of.Given as goal

-- the parameters so far
abbrev pub invariant-loop-param : goal.invariant-loop-param
invariant-loop-param l = ParamIdsSoFar l.fn.scope l.params l.param-index l.scope l.ids.items
