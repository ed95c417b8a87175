use Rattle.std.proofs.Common.{◌++◌, ◌∙◌, ap, flat_map, sym}
use Rattle.std.specs.String.{string_bytes}
use Rattle.std.proofs.lemmas.List.{take_all}
use Rattle.std.proofs.lemmas.List.Folds.{flat_map-map}
use Rattle.jif_tree.specs.Trees.{program_tree}
use Rattle.need_labels.specs.Labelled.{labelled_of}
use Rattle.place_texts.specs.Holding.{sheet_of}
use Rattle.place_texts.specs.Lines.{part_lines}
use Rattle.place_texts.specs.Parts.{part_shape}
use Rattle.place_texts.proofs.PartReasons.{part_within}
use Rattle.place_texts.proofs.lines.push_lines.Goals as goal

pub push_part-requires-clause-part : goal.push_part-requires-clause-part
push_part-requires-clause-part c =
    let holding = c.args.holding.now in
    part_within holding.hosts.now.principals (program_tree holding.checked.now.program) c.args.parts.now
    c.loop-part.part-index c.part-item.result c.requires.parts c.loop-part-test.true c.part-item.is

pub returns : goal.returns
returns c =
    let holding = c.args.holding.now in
    let hosts = holding.hosts.now.hosts in
    let lines = part_lines (sheet_of holding) (labelled_of holding.checked.now) hosts in
    c.loop-part.invariant.0
    ∙ ap (λ taken. string_bytes c.args.text.now ++ flat_map (λ part. lines (part_shape part)) taken)
    (take_all c.loop-part.part-index c.args.parts.now c.loop-part-test.false)
    ∙ ap (λ more. string_bytes c.args.text.now ++ more) (sym (flat_map-map lines part_shape c.args.parts.now))
