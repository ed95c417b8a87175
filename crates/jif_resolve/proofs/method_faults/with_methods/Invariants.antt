use Rattle.jif_resolve.proofs.MethodWalks.{MethodsSoFar}
use Rattle.jif_resolve.proofs.method_faults.with_methods.Given as goal

-- the methods so far
abbrev pub invariant-loop-method : goal.invariant-loop-method
invariant-loop-method l =
    MethodsSoFar l.principals l.globals l.fn.first l.method-items l.method-index l.scope l.sooner_one
