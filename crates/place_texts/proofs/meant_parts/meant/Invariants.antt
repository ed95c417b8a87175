use Rattle.std.proofs.Common.{◌≡◌, filter, map, take}
use Rattle.jif_tree.specs.Trees.{program_tree}
use Rattle.place_texts.specs.Meant.{is_meant}
use Rattle.place_texts.specs.Parts.{part_shape}
use Rattle.place_texts.proofs.meant_parts.meant.Given as goal

-- those of the parts so far that the word means
abbrev pub invariant-loop-part : goal.invariant-loop-part
invariant-loop-part l =
    map part_shape l.parts.items
    ≡ filter (is_meant (program_tree l.program) l.word) (map part_shape (take l.part-index l.part-items))
