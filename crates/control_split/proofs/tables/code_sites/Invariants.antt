use Rattle.std.proofs.Common.{◌≡◌, map, take}
use Rattle.std.specs.List.{flat_map}
use Rattle.jif_tree.specs.Trees.{method_tree}
use Rattle.split_rules.specs.SplitCode.{site_hosts}
use Rattle.control_split.proofs.tables.code_sites.Given as goal

-- the call sites of the methods so far
abbrev pub invariant-loop-method : goal.invariant-loop-method
invariant-loop-method l =
    l.sites.items ≡ flat_map (λ method. site_hosts l.split.plan.now method.body)
    (map method_tree (take l.method-index l.method-items))
