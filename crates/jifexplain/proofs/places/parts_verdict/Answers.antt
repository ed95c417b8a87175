use Rattle.std.proofs.Common.{◌≢◌, length, map, arith, rules}
use Rattle.std.proofs.lemmas.Grind.{common_steps}
use Rattle.std.specs.Option.{option_map}
use Rattle.explain_texts.specs.Told.{told_shape}
use Rattle.need_labels.specs.Labelled.{labelled_of}
use Rattle.place_texts.specs.Holding.{sheet_of}
use Rattle.place_texts.specs.Parts.{part_shape}
use Rattle.jifexplain.specs.Questions.{asked_shape}
use Rattle.jifexplain.proofs.PlacesAgain.{parts_due}
use Rattle.jifexplain.proofs.places.parts_verdict.Goals as goal

pub returns : goal.returns
returns c =
    let question = c.args.question.now in
    let holding = c.args.holding.now in
    let some : length (map part_shape c.args.parts.now) ≢ 0 = first_of (grind (arith, common_steps), search rules) in
    parts_due question.shown.name.now question.shown.text.now (option_map told_shape c.args.head) (sheet_of holding)
    (labelled_of holding.checked.now) holding.hosts.now.hosts c.args.word.now (asked_shape question.asked)
    (map part_shape c.args.parts.now) _ c.lines_verdict.result some c.requires.asked c.in_ok-lines.ensures
    c.lines_verdict.ensures
