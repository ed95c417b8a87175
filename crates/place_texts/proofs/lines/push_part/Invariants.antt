use Rattle.std.proofs.Common.{◌≡◌, ◌++◌, flat_map, take}
use Rattle.std.specs.String.{string_bytes}
use Rattle.jif_tree.specs.Trees.{program_tree}
use Rattle.need_labels.specs.Labelled.{labelled_of}
use Rattle.place_reasons.specs.Kept.{AreAnswers}
use Rattle.place_texts.specs.Holding.{sheet_of}
use Rattle.place_texts.specs.Lines.{line_at}
use Rattle.place_texts.specs.Parts.{part_shape}
use Rattle.place_texts.proofs.lines.push_part.Given as goal

-- the lines of the hosts so far are added
abbrev pub invariant-loop-place : goal.invariant-loop-place
invariant-loop-place l =
    (string_bytes l.text ≡ string_bytes l.fn.text
    ++ flat_map (line_at (sheet_of l.holding) (labelled_of l.holding.checked.now) (part_shape l.part))
    (take l.place l.holding.hosts.now.hosts))
    × AreAnswers l.holding.hosts.now.principals (program_tree l.holding.checked.now.program) l.answers.kept.items
