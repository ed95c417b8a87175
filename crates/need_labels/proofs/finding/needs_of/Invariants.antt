use Rattle.std.proofs.Common.{map, take}
use Rattle.std.specs.List.{flat_map}
use Rattle.jif_tree.specs.Trees.{method_tree}
use Rattle.need_labels.specs.Labelled.{labelled_of}
use Rattle.need_labels.specs.Needs.{method_uses}
use Rattle.need_labels.specs.Finding.{AreFound}
use Rattle.need_labels.proofs.finding.needs_of.Given as goal

-- the methods so far
abbrev pub invariant-loop-method : goal.invariant-loop-method
invariant-loop-method l =
    AreFound l.principals (labelled_of l.checked)
    (flat_map (method_uses l.principals (labelled_of l.checked))
    (map method_tree (take l.method-index l.checked.program.methods.items))) l.found
