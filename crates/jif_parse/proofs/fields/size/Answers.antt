use Rattle.std.proofs.Common.{refl, arith, sym, subst}
use Rattle.jif_parse.proofs.Exits.{handed_on}
use Rattle.jif_parse.specs.Fields.{FailsSize, ReadsSize}
use Rattle.jif_parse.proofs.FieldParts.{no_number, zero_size, size_over, size_fits, size_bracket_fails, size_end_fails}
use Rattle.jif_parse.proofs.FieldParts.{size_read}
use Rattle.jif_parse.proofs.fields.size.Goals as goal

pub returns-in_default-clause-fails : goal.returns-in_default-clause-fails
returns-in_default-clause-fails c =
    no_number c.unexpected.ensures c.in_default.ensures.none

pub returns-then-number-eq0-clause-fails : goal.returns-then-number-eq0-clause-fails
returns-then-number-eq0-clause-fails c =
    zero_size c.in-Some.number c.unexpected-then-number-eq0.ensures c.in-Some.ensures.found c.if-number-eq0.true

pub returns-in_err-take-clause-fails : goal.returns-in_err-take-clause-fails
returns-in_err-take-clause-fails c =
    handed_on (FailsSize c.args.cursor.now) c.in_err-take.field-0.0 c.from_residual.result c.from_residual.ensures
    (size_over c.in-Some.number (omega (arith, c.if-number-eq0.false)) c.in-Some.ensures.found
    c.in_err-take.ensures.over)

pub returns-in_default-try_from-clause-fails : goal.returns-in_default-try_from-clause-fails
returns-in_default-try_from-clause-fails c =
    size_fits c.in-Some.number (omega (arith, c.in_default-try_from.ensures)) c.in_ok-take.ensures.counted refl

pub returns-in_err-expect-clause-fails : goal.returns-in_err-expect-clause-fails
returns-in_err-expect-clause-fails c =
    handed_on (FailsSize c.args.cursor.now) c.in_err-expect.field-0.0 c.from_residual-in_err-expect.result
    c.from_residual-in_err-expect.ensures
    (size_bracket_fails c.in-Some.number (omega (arith, c.if-number-eq0.false)) c.in-Some.ensures.found
    c.in_ok-take.ensures.counted c.in_err-expect.ensures.other)

pub returns-in_err-expect-2-clause-fails : goal.returns-in_err-expect-2-clause-fails
returns-in_err-expect-2-clause-fails c =
    handed_on (FailsSize c.args.cursor.now) c.in_err-expect-2.field-0.0 c.from_residual-in_err-expect-2.result
    c.from_residual-in_err-expect-2.ensures
    (size_end_fails c.in-Some.number (omega (arith, c.if-number-eq0.false)) c.in-Some.ensures.found
    c.in_ok-take.ensures.counted c.in_ok-expect.ensures.passed
    c.in_err-expect-2.ensures.other)

pub returns-clause-read : goal.returns-clause-read
returns-clause-read c =
    subst (ReadsSize c.args.cursor.now c.expect-2.new.self) (sym c.in-Ok.ensures.1)
    (size_read c.in-Some.number (omega (arith, c.if-number-eq0.false)) c.in-Some.ensures.found
    c.in_ok-take.ensures.counted c.in_ok-expect.ensures.passed
    c.in_ok-expect-2.ensures.passed)
