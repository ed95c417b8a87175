use Rattle.std.proofs.Common.{◌≡◌, None, Option, List, sym, subst}
use Rattle.std.specs.Prelude.{◌↔◌}
use Rattle.std.specs.List.{AllZip}
use Rattle.place_reasons.specs.Programs.{labelled_by}
use Rattle.place_reasons.specs.declared.reason.PlaceReason.{PlaceReason}
use Rattle.place_rules.specs.PlaceRules.{MayHoldField, MayHoldStatement, needed_statements, told_fields}
use Rattle.place_texts.specs.Parts.{fields_of, statements_of}
use Rattle.place_texts.proofs.LinesDue.{lines_fit, no_lines}
use Rattle.place_texts.proofs.PartReasons.{fields_same, statements_same}
use Rattle.place_texts.proofs.laws.line_laws.Goals as goal

pub returns-clause-fields : goal.returns-clause-fields
returns-clause-fields c = λ sheet program needs host over are.
    let labelled = labelled_by sheet.principals program in
    lines_fit sheet labelled host (λ row. MayHoldField row host) (fields_of program) (told_fields labelled needs)
    (subst (λ (reasons : List (Option PlaceReason)). AllZip (λ reason row. (reason ≡ None) ↔ MayHoldField row host)
    reasons (told_fields labelled needs)) (sym (fields_same sheet.principals labelled host.label))
    (c.program_place_laws.ensures.fields sheet.principals program needs host over are))

pub returns-clause-statements : goal.returns-clause-statements
returns-clause-statements c = λ sheet program needs host over are.
    let labelled = labelled_by sheet.principals program in
    lines_fit sheet labelled host (λ row. MayHoldStatement row host) (statements_of program) (needed_statements needs)
    (subst (λ (reasons : List (Option PlaceReason)). AllZip (λ reason row. (reason ≡ None) ↔ MayHoldStatement row host)
    reasons (needed_statements needs)) (sym (statements_same sheet.principals labelled host.label))
    (c.program_place_laws.ensures.statements sheet.principals program needs host over are))

pub returns-clause-no_lines : goal.returns-clause-no_lines
returns-clause-no_lines c = no_lines
