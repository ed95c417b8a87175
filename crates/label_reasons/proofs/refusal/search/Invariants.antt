use Rattle.std.proofs.Common.{map, drop}
use Rattle.jif_tree.specs.Trees.{program_tree, method_tree}
use Rattle.label_reasons.proofs.MethodSearches.{Reaches}
use Rattle.label_reasons.proofs.refusal.search.Given as goal

-- nothing that the methods so far ask for is refused
abbrev pub invariant-loop-number : goal.invariant-loop-number
invariant-loop-number l =
    Reaches l.principals (program_tree l.program) l.held l.number l.known
    (map method_tree (drop l.number l.program.methods.items))
