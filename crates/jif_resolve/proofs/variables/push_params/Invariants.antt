use Rattle.jif_resolve.proofs.VariableLists.{AddedSoFar, params_from}
use Rattle.jif_resolve.proofs.variables.push_params.Given as goal

-- the parameters so far
abbrev pub invariant-loop-param : goal.invariant-loop-param
invariant-loop-param l =
    AddedSoFar l.principals (params_from l.method l.params 0) (params_from l.method l.params l.param-index)
    l.fn.variables.items l.variables.items
