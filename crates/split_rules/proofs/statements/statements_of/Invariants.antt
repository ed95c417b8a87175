use Rattle.std.proofs.Common.{◌≡◌, ◌++◌, drop, map}
use Rattle.std.specs.List.{flat_map}
use Rattle.jif_tree.specs.Trees.{method_tree}
use Rattle.split_rules.specs.ReleaseRows.{shown}
use Rattle.split_rules.proofs.AddedStatements.{all_in}
use Rattle.split_rules.proofs.statements.statements_of.Given as goal

-- the statements so far with those of the methods that are left
abbrev pub invariant-loop-method : goal.invariant-loop-method
invariant-loop-method l =
    map shown l.statements.items ++ flat_map all_in (map method_tree (drop l.method-index l.method-items))
    ≡ flat_map all_in (map method_tree l.method-items)
