use Rattle.std.proofs.Common.{◌≡◌, ◌++◌, flat_map, map, take}
use Rattle.jif_tree.specs.Trees.{method_tree}
use Rattle.place_texts.specs.Parts.{method_parts, part_shape}
use Rattle.place_texts.proofs.part.push_statements.Given as goal

-- those of the methods so far
abbrev pub invariant-loop-method : goal.invariant-loop-method
invariant-loop-method l =
    map part_shape l.all.items
    ≡ map part_shape l.fn.all.items
    ++ flat_map (λ method. method_parts (method_tree method)) (take l.method-index l.program.methods.items)
