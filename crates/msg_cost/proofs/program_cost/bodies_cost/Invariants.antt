use Rattle.std.proofs.Common.{drop, map}
use Rattle.std.specs.List.{flat_map}
use Rattle.jif_tree.specs.Trees.{method_tree}
use Rattle.msg_cost.specs.Terms.{method_terms}
use Rattle.msg_cost.specs.Views.{seated_shape}
use Rattle.msg_cost.specs.Walks.{CostsWith}
use Rattle.msg_cost.proofs.program_cost.bodies_cost.Given as goal

-- the total counts the methods so far
abbrev pub invariant-loop-method : goal.invariant-loop-method
invariant-loop-method l =
    CostsWith l.planned.hosts.now
    (flat_map (method_terms (seated_shape l.planned)) (map method_tree l.method-items)) l.total
    (flat_map (method_terms (seated_shape l.planned)) (map method_tree (drop l.method-index l.method-items)))
