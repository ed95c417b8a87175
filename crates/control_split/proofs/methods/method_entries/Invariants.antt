use Rattle.std.proofs.Common.{◌≡◌, map, take}
use Rattle.jif_tree.specs.Trees.{method_tree}
use Rattle.split_rules.specs.Walk.{method_entry}
use Rattle.control_split.specs.Trace.{traced}
use Rattle.control_split.specs.Views.{planned_in}
use Rattle.control_split.proofs.methods.method_entries.Given as goal

-- the methods so far have their entries
abbrev pub invariant-loop-method : goal.invariant-loop-method
invariant-loop-method l =
    l.trace ≡ traced l.fn.trace
    (map (method_entry (planned_in l.split)) (map method_tree (take l.method-index l.method-items)))
