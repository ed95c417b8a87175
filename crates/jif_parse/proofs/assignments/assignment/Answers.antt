use Rattle.jif_parse.specs.Statements.{FailsAssignment}
use Rattle.jif_parse.proofs.Exits.{handed_on}
use Rattle.jif_parse.proofs.StatementParts.{assigned_fails, assigned_read, arguments_over, called_fails, called_read}
use Rattle.jif_parse.proofs.assignments.assignment.Goals as goal

pub returns-in_err-value-clause-fails : goal.returns-in_err-value-clause-fails
returns-in_err-value-clause-fails c =
    handed_on (FailsAssignment c.args.cursor.now c.args.depth) c.in_err-value.field-0.0 c.from_residual.result
    c.from_residual.ensures (assigned_fails c.in_default.ensures.none c.in_err-value.ensures.fails)

pub returns-in_default-clause-read : goal.returns-in_default-clause-read
returns-in_default-clause-read c =
    assigned_read c.widths_of_phrases.ensures c.in_default.ensures.none c.in_ok-value.ensures.read

pub returns-in_err-take-2-clause-fails : goal.returns-in_err-take-2-clause-fails
returns-in_err-take-2-clause-fails c =
    handed_on (FailsAssignment c.args.cursor.now c.args.depth) c.in_err-take-2.field-0.0
    c.from_residual-in_err-take-2.result c.from_residual-in_err-take-2.ensures
    (arguments_over c.in-Some.ensures.called c.in_ok-take.ensures.counted c.in_err-take-2.ensures.over)

pub returns-in_err-args-clause-fails : goal.returns-in_err-args-clause-fails
returns-in_err-args-clause-fails c =
    handed_on (FailsAssignment c.args.cursor.now c.args.depth) c.in_err-args.field-0.0
    c.from_residual-in_err-args.result c.from_residual-in_err-args.ensures
    (called_fails c.in-Some.ensures.called c.in_ok-take.ensures.counted c.in_ok-take-2.ensures.counted
    c.in_err-args.ensures.fails)

pub returns-clause-read : goal.returns-clause-read
returns-clause-read c =
    called_read c.widths_of_phrases.ensures c.in-Some.ensures.called c.in_ok-method.ensures.draft
    c.in_ok-take.ensures.counted c.in_ok-take-2.ensures.counted c.in_ok-args.ensures.read
