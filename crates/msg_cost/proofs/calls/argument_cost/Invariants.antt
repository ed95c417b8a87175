use Rattle.std.proofs.Common.{drop, map}
use Rattle.jif_tree.specs.Trees.{expr_tree}
use Rattle.msg_cost.specs.Terms.{argument_terms}
use Rattle.msg_cost.specs.Views.{seated_shape}
use Rattle.msg_cost.specs.Walks.{CostsWith}
use Rattle.msg_cost.proofs.calls.argument_cost.Given as goal

-- the total counts the arguments so far
abbrev pub invariant-loop-arg : goal.invariant-loop-arg
invariant-loop-arg l =
    CostsWith l.planned.hosts.now
    (argument_terms (seated_shape l.planned) l.weight l.host l.home l.fn.params (map expr_tree l.args)) l.total
    (argument_terms (seated_shape l.planned) l.weight l.host l.home l.left (map expr_tree (drop l.arg-index l.args)))
