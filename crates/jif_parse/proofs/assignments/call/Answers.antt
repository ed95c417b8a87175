use Rattle.jif_parse.specs.Statements.{FailsCall}
use Rattle.jif_parse.proofs.Exits.{handed_on}
use Rattle.jif_parse.proofs.StatementParts.{call_read, call_fails}
use Rattle.jif_parse.proofs.assignments.call.Goals as goal

pub returns-in_err-expect-clause-fails : goal.returns-in_err-expect-clause-fails
returns-in_err-expect-clause-fails c =
    handed_on (FailsCall c.args.cursor.now c.args.depth) c.in_err-expect.field-0.0 c.from_residual-in_err-expect.result
    c.from_residual-in_err-expect.ensures (call_fails c.in_ok-args.ensures.read c.in_err-expect.ensures.other)

pub returns-clause-read : goal.returns-clause-read
returns-clause-read c = call_read c.requires c.in_ok-args.ensures.read c.in_ok-expect.ensures.passed
