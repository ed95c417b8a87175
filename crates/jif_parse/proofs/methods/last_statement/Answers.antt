use Rattle.jif_parse.proofs.Exits.{handed_on}
use Rattle.jif_parse.specs.Methods.{FailsReturn}
use Rattle.jif_parse.proofs.MethodParts.{return_value_fails, return_end_fails, return_read}
use Rattle.jif_parse.proofs.methods.last_statement.Goals as goal

pub returns-in_err-value-clause-fails : goal.returns-in_err-value-clause-fails
returns-in_err-value-clause-fails c =
    handed_on (FailsReturn c.args.cursor.now) c.in_err-value.field-0.0 c.from_residual-in_err-value.result
    c.from_residual-in_err-value.ensures
    (return_value_fails c.requires c.in_ok-take.ensures.counted c.in_err-value.ensures.fails)

pub returns-in_err-expect-clause-fails : goal.returns-in_err-expect-clause-fails
returns-in_err-expect-clause-fails c =
    handed_on (FailsReturn c.args.cursor.now) c.in_err-expect.field-0.0 c.from_residual-in_err-expect.result
    c.from_residual-in_err-expect.ensures
    (return_end_fails c.requires c.in_ok-take.ensures.counted c.in_ok-value.ensures.read c.in_err-expect.ensures.other)

pub returns-clause-read : goal.returns-clause-read
returns-clause-read c =
    return_read c.requires c.next_line-line.ensures c.in_ok-take.ensures.counted c.in_ok-value.ensures.read
    c.in_ok-expect.ensures.passed
