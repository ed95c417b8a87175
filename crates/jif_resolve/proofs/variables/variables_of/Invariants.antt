use Rattle.std.proofs.Common.{[]}
use Rattle.jif_resolve.proofs.VariableLists.{AddedSoFar, methods_left}
use Rattle.jif_resolve.proofs.variables.variables_of.Given as goal

-- the methods so far
abbrev pub invariant-loop-number : goal.invariant-loop-number
invariant-loop-number l =
    AddedSoFar l.principals (methods_left l.methods 0) (methods_left l.methods l.number) [] l.variables.items
