use Rattle.jif_parse.specs.Statements.{FailsElement}
use Rattle.jif_parse.proofs.Exits.{handed_on}
use Rattle.jif_parse.proofs.StatementParts.{element_read, element_fails_at_symbol, element_fails_at_value}
use Rattle.jif_parse.proofs.assignments.element.Goals as goal

pub returns-in_err-expect-clause-fails : goal.returns-in_err-expect-clause-fails
returns-in_err-expect-clause-fails c =
    handed_on (FailsElement c.args.cursor.now c.args.depth) c.in_err-expect.field-0.0
    c.from_residual-in_err-expect.result c.from_residual-in_err-expect.ensures
    (element_fails_at_symbol c.in_ok-index.ensures.read c.in_err-expect.ensures.other)

pub returns-in_err-value-clause-fails : goal.returns-in_err-value-clause-fails
returns-in_err-value-clause-fails c =
    handed_on (FailsElement c.args.cursor.now c.args.depth) c.in_err-value.field-0.0
    c.from_residual-in_err-value.result c.from_residual-in_err-value.ensures
    (element_fails_at_value c.requires c.in_ok-index.ensures.read c.in_ok-expect.ensures.passed
    c.in_err-value.ensures.fails)

pub returns-clause-read : goal.returns-clause-read
returns-clause-read c =
    element_read c.requires c.in_ok-index.ensures.read c.in_ok-expect.ensures.passed c.in_ok-value.ensures.read
