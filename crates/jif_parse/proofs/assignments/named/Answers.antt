use Rattle.std.proofs.Common.{refl}
use Rattle.std.proofs.lemmas.Bool.{false≢true}
use Rattle.std.proofs.lemmas.Result.{IfOk-weaker, IfErr-weaker}
use Rattle.jif_parse.specs.Statements.{FailsStatement}
use Rattle.jif_parse.proofs.Exits.{handed_on}
use Rattle.jif_parse.proofs.StatementParts.{assignment_read, assignment_fails, element_statement_fails}
use Rattle.jif_parse.proofs.StatementParts.{element_statement_read, name_alone_fails, call_statement_fails}
use Rattle.jif_parse.proofs.StatementParts.{call_statement_read}
use Rattle.jif_parse.proofs.assignments.named.Goals as goal

pub returns-then-is_next-clause-read : goal.returns-then-is_next-clause-read
returns-then-is_next-clause-read c =
    IfOk-weaker c.assignment.result _ _ (λ draft read.
    assignment_read c.requires.nested c.requires.next c.in_ok-name.ensures.draft c.in_ok-take.ensures.counted
    (record { is_next = c.if-is_next.ensures.0 refl; passes = c.pass.ensures }) read) c.assignment.ensures.read

pub returns-then-is_next-clause-fails : goal.returns-then-is_next-clause-fails
returns-then-is_next-clause-fails c =
    IfErr-weaker c.assignment.result _ _ (λ error fails.
    assignment_fails c.requires.nested c.requires.next c.in_ok-take.ensures.counted
    (record { is_next = c.if-is_next.ensures.0 refl; passes = c.pass.ensures }) fails) c.assignment.ensures.fails

pub returns-in_err-index-clause-fails : goal.returns-in_err-index-clause-fails
returns-in_err-index-clause-fails c =
    handed_on (FailsStatement c.args.cursor.now c.args.depth) c.in_err-index.field-0.0
    c.from_residual-in_err-index.result c.from_residual-in_err-index.ensures
    (element_statement_fails c.requires.nested c.requires.next c.in_ok-take.ensures.counted
    (record { is_next = c.if-is_next-2.ensures.0 refl; passes = c.pass-then-is_next-2.ensures })
    c.in_err-index.ensures.fails)

pub returns-then-is_next-2-clause-read : goal.returns-then-is_next-2-clause-read
returns-then-is_next-2-clause-read c =
    element_statement_read c.widths_of_phrases.ensures c.requires.nested c.requires.next c.in_ok-name.ensures.draft
    c.in_ok-take.ensures.counted (record {
      is_next = c.if-is_next-2.ensures.0 refl;
      passes =
          c.pass-then-is_next-2.ensures;
    })
    c.in_ok-index.ensures.read

pub returns-in_err-expect-clause-fails : goal.returns-in_err-expect-clause-fails
returns-in_err-expect-clause-fails c =
    handed_on (FailsStatement c.args.cursor.now c.args.depth) c.in_err-expect.field-0.0
    c.from_residual-in_err-expect.result c.from_residual-in_err-expect.ensures
    (name_alone_fails c.requires.next c.in_ok-take.ensures.counted (λ h. false≢true (c.if-is_next.ensures.1 h))
    (λ h. false≢true (c.if-is_next-2.ensures.1 h)) c.in_err-expect.ensures.other)

pub returns-in_err-args-clause-fails : goal.returns-in_err-args-clause-fails
returns-in_err-args-clause-fails c =
    handed_on (FailsStatement c.args.cursor.now c.args.depth) c.in_err-args.field-0.0
    c.from_residual-in_err-args.result c.from_residual-in_err-args.ensures
    (call_statement_fails c.requires.nested c.requires.next c.in_ok-take.ensures.counted c.in_ok-expect.ensures.passed
    c.in_err-args.ensures.fails)

pub returns-clause-read : goal.returns-clause-read
returns-clause-read c =
    call_statement_read c.widths_of_phrases.ensures c.requires.nested c.requires.next c.in_ok-name.ensures.draft
    c.in_ok-take.ensures.counted c.in_ok-expect.ensures.passed c.in_ok-args.ensures.read
