use Rattle.std.proofs.Common.{◌≡◌, ◌++◌, drop, map}
use Rattle.jif_tree.specs.Trees.{block_tree, method_tree}
use Rattle.place_texts.specs.Parts.{block_parts, part_shape}
use Rattle.place_texts.proofs.part.+blocks.Given as goal

-- the parts so far, with what is left, are all
abbrev pub invariant-push_block-loop-statement : goal.invariant-push_block-loop-statement
invariant-push_block-loop-statement l =
    map part_shape l.all.items ++ block_parts (method_tree l.method) (block_tree (drop l.statement-index l.block))
    ≡ map part_shape l.fn.all.items ++ block_parts (method_tree l.method) (block_tree l.block)
