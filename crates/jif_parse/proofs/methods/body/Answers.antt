use Rattle.std.proofs.lemmas.Bool.{false≢true}
use Rattle.jif_parse.proofs.Exits.{handed_on}
use Rattle.jif_parse.specs.Methods.{FailsBody}
use Rattle.jif_parse.proofs.MethodParts.{body_statements_fail, body_return_fails, body_with_return, body_end_fails}
use Rattle.jif_parse.proofs.MethodParts.{body_without_return}
use Rattle.jif_parse.proofs.methods.body.Goals as goal

pub returns-in_err-body-clause-fails : goal.returns-in_err-body-clause-fails
returns-in_err-body-clause-fails c =
    handed_on (FailsBody c.args.cursor.now) c.in_err-body.field-0.0 c.from_residual.result c.from_residual.ensures
    (body_statements_fail c.in_err-body.ensures.fails)

pub returns-in_err-last-clause-fails : goal.returns-in_err-last-clause-fails
returns-in_err-last-clause-fails c =
    handed_on (FailsBody c.args.cursor.now) c.in_err-last.field-0.0 c.from_residual-in_err-last.result
    c.from_residual-in_err-last.ensures
    (body_return_fails c.in_ok-body.ensures.read c.in_err-last.ensures.fails)

pub returns-then-is_word_next-clause-read : goal.returns-then-is_word_next-clause-read
returns-then-is_word_next-clause-read c =
    rw c.in_ok-push.ensures.items (body_with_return c.in_ok-body.ensures.read c.in_ok-last.ensures.read)

pub returns-in_err-expect-clause-fails : goal.returns-in_err-expect-clause-fails
returns-in_err-expect-clause-fails c =
    handed_on (FailsBody c.args.cursor.now) c.in_err-expect.field-0.0 c.from_residual-in_err-expect.result
    c.from_residual-in_err-expect.ensures
    (body_end_fails c.in_ok-body.ensures.read (λ h. false≢true (c.if-is_word_next.ensures.1 h))
    c.in_err-expect.ensures.other)

pub returns-clause-read : goal.returns-clause-read
returns-clause-read c =
    body_without_return c.in_ok-body.ensures.read c.in_ok-expect.ensures.passed
