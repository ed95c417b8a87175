use Rattle.std.proofs.Common.{◌≡◌, ◌++◌, drop, length, map}
use Rattle.jif_tree.specs.Trees.{method_tree}
use Rattle.plan_ways.specs.Lasts.{method_lasts}
use Rattle.plan_ways.proofs.lasts.lasts_of.Given as goal

-- what was added, and that of the methods that are left, is the whole
abbrev pub invariant-loop-method : goal.invariant-loop-method
invariant-loop-method l =
    l.lasts.items ++ method_lasts (length l.lasts.items) (map method_tree (drop l.method-index l.method-items))
    ≡ method_lasts 0 (map method_tree l.method-items)
