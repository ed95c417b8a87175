use Rattle.jif_parse.specs.Statements.{FailsStatement}
use Rattle.jif_parse.proofs.Exits.{handed_on}
use Rattle.jif_parse.proofs.StatementParts.{local_name_fails, local_fails_at_symbol, local_fails_at_value, local_read}
use Rattle.jif_parse.proofs.assignments.local.Goals as goal

pub returns-in_err-label-clause-fails : goal.returns-in_err-label-clause-fails
returns-in_err-label-clause-fails c =
    handed_on (FailsStatement c.args.cursor.now c.args.depth) c.in_err-label.field-0.0
    c.from_residual-in_err-label.result c.from_residual-in_err-label.ensures
    (local_name_fails c.requires.nested c.requires.next c.in_ok-take.ensures.counted c.in_err-label.ensures.fails)

pub returns-in_err-expect-clause-fails : goal.returns-in_err-expect-clause-fails
returns-in_err-expect-clause-fails c =
    handed_on (FailsStatement c.args.cursor.now c.args.depth) c.in_err-expect.field-0.0
    c.from_residual-in_err-expect.result c.from_residual-in_err-expect.ensures
    (local_fails_at_symbol c.requires.nested c.requires.next c.in_ok-take.ensures.counted c.in_ok-label.ensures.read
    c.in_err-expect.ensures.other)

pub returns-in_err-value-clause-fails : goal.returns-in_err-value-clause-fails
returns-in_err-value-clause-fails c =
    handed_on (FailsStatement c.args.cursor.now c.args.depth) c.in_err-value.field-0.0
    c.from_residual-in_err-value.result c.from_residual-in_err-value.ensures
    (local_fails_at_value c.requires.nested c.requires.next c.in_ok-take.ensures.counted c.in_ok-label.ensures.read
    c.in_ok-expect.ensures.passed c.in_err-value.ensures.fails)

pub returns-clause-read : goal.returns-clause-read
returns-clause-read c =
    local_read c.widths_of_phrases.ensures c.requires.nested c.requires.next c.in_ok-take.ensures.counted
    c.in_ok-label.ensures.read c.in_ok-expect.ensures.passed c.in_ok-value.ensures.read
