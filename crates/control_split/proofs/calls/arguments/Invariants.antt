use Rattle.std.proofs.Common.{◌≡◌, drop, map}
use Rattle.jif_tree.specs.Trees.{expr_tree}
use Rattle.split_rules.specs.Walk.{argument_emissions}
use Rattle.control_split.specs.Trace.{traced}
use Rattle.control_split.specs.Views.{walked_of}
use Rattle.control_split.proofs.calls.arguments.Given as goal

-- what is left gives what all arguments gave from the start
abbrev pub invariant-loop-arg : goal.invariant-loop-arg
invariant-loop-arg l =
    traced l.trace (argument_emissions (walked_of l.walk) l.place.host l.home l.place.label.now l.place.statement l.left
    (map expr_tree (drop l.arg-index l.args)))
    ≡ traced l.fn.trace (argument_emissions (walked_of l.walk) l.place.host l.home l.place.label.now l.place.statement
    l.fn.params (map expr_tree l.args))
