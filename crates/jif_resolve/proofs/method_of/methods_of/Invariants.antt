use Rattle.jif_resolve.proofs.Methods.{MethodsMade}
use Rattle.jif_resolve.proofs.method_of.methods_of.Given as goal

-- the methods so far
abbrev pub invariant-loop-draft : goal.invariant-loop-draft
invariant-loop-draft l =
    MethodsMade l.principals l.globals l.fn.drafts.items l.yielded l.draft-iterator.rest.items l.scope l.methods.items
