use Rattle.std.proofs.Common.{subst, sym, map, ap, ◌∙◌}
use Rattle.std.specs.Option.{option_map}
use Rattle.jif_tree.specs.Trees.{program_tree}
use Rattle.explain_texts.specs.Told.{told_shape}
use Rattle.need_labels.specs.Labelled.{labelled_of}
use Rattle.place_texts.specs.Holding.{ArePartsOf, sheet_of}
use Rattle.place_texts.specs.Parts.{part_shape}
use Rattle.jifexplain.specs.Questions.{asked_shape}
use Rattle.jifexplain.proofs.PlacesAgain.{whole_due, whole_within}
use Rattle.jifexplain.proofs.places.places_verdict.Goals as goal

pub lines_told-requires-clause-parts : goal.lines_told-requires-clause-parts
lines_told-requires-clause-parts c =
    let principals = c.args.holding.now.hosts.now.principals in
    let tree = program_tree c.args.holding.now.checked.now.program in
    subst (ArePartsOf principals tree)
    (sym (ap (map part_shape) c.deref.ensures.value ∙ c.in_ok-parts-in-All.ensures))
    (whole_within principals tree c.args.question.now.why
    (c.part_laws.ensures.all principals tree c.requires.authorities)
    (λ why. c.part_laws.ensures.unheld principals tree why c.requires.authorities))

pub parts_verdict-requires-clause-parts : goal.parts_verdict-requires-clause-parts
parts_verdict-requires-clause-parts c =
    let principals = c.args.holding.now.hosts.now.principals in
    let tree = program_tree c.args.holding.now.checked.now.program in
    subst (ArePartsOf principals tree)
    (sym (ap (map part_shape) c.deref-in-Meant.ensures.value ∙ c.in_ok-parts-in-Meant.ensures))
    (c.part_laws.ensures.meant principals tree _ c.requires.authorities)

pub returns-in_ok-lines-in-All : goal.returns-in_ok-lines-in-All
returns-in_ok-lines-in-All c =
    let question = c.args.question.now in
    let holding = c.args.holding.now in
    whole_due question.shown.name.now question.shown.text.now (option_map told_shape c.args.head) (sheet_of holding)
    (labelled_of holding.checked.now) holding.hosts.now.hosts question.why (asked_shape question.asked)
    (map part_shape c.deref.result.now) _ c.lines_verdict.result (ap asked_shape c.in-All.is)
    (ap (map part_shape) c.deref.ensures.value ∙ c.in_ok-parts-in-All.ensures) c.in_ok-lines-in-All.ensures
    c.lines_verdict.ensures
