use Rattle.jif_parse.proofs.Exits.{handed_on}
use Rattle.jif_parse.specs.Methods.{FailsTail}
use Rattle.jif_parse.proofs.MethodParts.{tail_opening_fails, tail_params_fail, tail_authority_fails, tail_body_fails}
use Rattle.jif_parse.proofs.MethodParts.{tail_read}
use Rattle.jif_parse.proofs.methods.tail.Goals as goal

pub returns-in_err-expect-clause-fails : goal.returns-in_err-expect-clause-fails
returns-in_err-expect-clause-fails c =
    handed_on (FailsTail c.args.cursor.now) c.in_err-expect.field-0.0 c.from_residual.result c.from_residual.ensures
    (tail_opening_fails c.in_err-expect.ensures.other)

pub returns-in_err-params-clause-fails : goal.returns-in_err-params-clause-fails
returns-in_err-params-clause-fails c =
    handed_on (FailsTail c.args.cursor.now) c.in_err-params.field-0.0 c.from_residual-in_err-params.result
    c.from_residual-in_err-params.ensures
    (tail_params_fail c.in_ok-expect.ensures.passed c.in_err-params.ensures.fails)

pub returns-in_err-authority-clause-fails : goal.returns-in_err-authority-clause-fails
returns-in_err-authority-clause-fails c =
    handed_on (FailsTail c.args.cursor.now) c.in_err-authority.field-0.0 c.from_residual-in_err-authority.result
    c.from_residual-in_err-authority.ensures
    (tail_authority_fails c.in_ok-expect.ensures.passed c.in_ok-params.ensures.read c.in_err-authority.ensures.fails)

pub returns-in_err-body-clause-fails : goal.returns-in_err-body-clause-fails
returns-in_err-body-clause-fails c =
    handed_on (FailsTail c.args.cursor.now) c.in_err-body.field-0.0 c.from_residual-in_err-body.result
    c.from_residual-in_err-body.ensures
    (tail_body_fails c.in_ok-expect.ensures.passed c.in_ok-params.ensures.read c.in_ok-authority.ensures.read
    c.in_err-body.ensures.fails)

pub returns-clause-read : goal.returns-clause-read
returns-clause-read c =
    tail_read _ c.in_ok-expect.ensures.passed c.in_ok-params.ensures.read c.in_ok-authority.ensures.read
    c.in_ok-body.ensures.read
