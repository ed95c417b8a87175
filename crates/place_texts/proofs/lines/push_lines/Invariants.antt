use Rattle.std.proofs.Common.{◌≡◌, ◌++◌, flat_map, take}
use Rattle.std.specs.String.{string_bytes}
use Rattle.jif_tree.specs.Trees.{program_tree}
use Rattle.need_labels.specs.Labelled.{labelled_of}
use Rattle.place_reasons.specs.Kept.{AreAnswers}
use Rattle.place_texts.specs.Holding.{sheet_of}
use Rattle.place_texts.specs.Lines.{part_lines}
use Rattle.place_texts.specs.Parts.{part_shape}
use Rattle.place_texts.proofs.lines.push_lines.Given as goal

-- the lines of the parts so far are added
abbrev pub invariant-loop-part : goal.invariant-loop-part
invariant-loop-part l =
    (string_bytes l.text ≡ string_bytes l.fn.text
    ++ flat_map (λ part. part_lines (sheet_of l.holding) (labelled_of l.holding.checked.now)
    l.holding.hosts.now.hosts (part_shape part)) (take l.part-index l.parts))
    × AreAnswers l.holding.hosts.now.principals (program_tree l.holding.checked.now.program) l.answers.kept.items
