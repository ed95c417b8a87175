use Rattle.std.proofs.Common.{map, drop}
use Rattle.jif_tree.specs.Trees.{program_tree, method_tree}
use Rattle.label_check.specs.Places.{PassesMethods}
use Rattle.label_check.proofs.checker.check_methods.Given as goal

-- the methods so far are passed
abbrev pub invariant-loop-method : goal.invariant-loop-method
invariant-loop-method l =
    PassesMethods l.principals (program_tree l.program) l.fn.found (map method_tree l.program.methods.items) l.found
    (map method_tree (drop l.method-index l.program.methods.items))
