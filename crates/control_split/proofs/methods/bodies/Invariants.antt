use Rattle.std.proofs.Common.{◌≡◌, drop, map}
use Rattle.jif_tree.specs.Trees.{method_tree}
use Rattle.split_rules.specs.Walk.{methods_emissions}
use Rattle.control_split.specs.Trace.{traced}
use Rattle.control_split.specs.Views.{labelled_in, planned_in}
use Rattle.control_split.proofs.methods.bodies.Given as goal

-- what is left gives what all methods gave from the start
abbrev pub invariant-loop-number : goal.invariant-loop-number
invariant-loop-number l =
    traced l.trace (methods_emissions l.split.hosts.now.principals (labelled_in l.split) (planned_in l.split)
    l.trace.counts l.number (map method_tree (drop l.number l.split.checked.now.program.methods.items)))
    ≡ traced l.fn.trace (methods_emissions l.split.hosts.now.principals (labelled_in l.split) (planned_in l.split)
    l.fn.trace.counts 0 (labelled_in l.split).program.methods)
