use Rattle.std.proofs.Common.{refl}
use Rattle.std.proofs.lemmas.Bool.{false≢true}
use Rattle.jif_parse.proofs.Exits.{handed_on}
use Rattle.jif_parse.specs.Methods.{FailsAuthority}
use Rattle.jif_parse.proofs.MethodParts.{no_authority_read, no_where_fails, no_authority_word_fails}
use Rattle.jif_parse.proofs.MethodParts.{authority_opening_fails}
use Rattle.jif_parse.proofs.MethodParts.{principals_fail, principals_end_fail, authority_brace_fails, authority_read}
use Rattle.jif_parse.proofs.methods.authority.Goals as goal

pub returns-then-is_next-clause-read : goal.returns-then-is_next-clause-read
returns-then-is_next-clause-read c =
    no_authority_read c.new.ensures.items (record { is_next = c.if-is_next.ensures.0 refl; passes = c.pass.ensures })

pub returns-in_err-expect_word-clause-fails : goal.returns-in_err-expect_word-clause-fails
returns-in_err-expect_word-clause-fails c =
    handed_on (FailsAuthority c.args.cursor.now) c.in_err-expect_word.field-0.0 c.from_residual.result
    c.from_residual.ensures
    (no_where_fails (λ h. false≢true (c.if-is_next.ensures.1 h)) c.in_err-expect_word.ensures.other)

pub returns-in_err-expect_word-2-clause-fails : goal.returns-in_err-expect_word-2-clause-fails
returns-in_err-expect_word-2-clause-fails c =
    handed_on (FailsAuthority c.args.cursor.now) c.in_err-expect_word-2.field-0.0
    c.from_residual-in_err-expect_word-2.result c.from_residual-in_err-expect_word-2.ensures
    (no_authority_word_fails c.in_ok-expect_word.ensures.passed c.in_err-expect_word-2.ensures.other)

pub returns-in_err-expect-clause-fails : goal.returns-in_err-expect-clause-fails
returns-in_err-expect-clause-fails c =
    handed_on (FailsAuthority c.args.cursor.now) c.in_err-expect.field-0.0 c.from_residual-in_err-expect.result
    c.from_residual-in_err-expect.ensures
    (authority_opening_fails c.in_ok-expect_word.ensures.passed c.in_ok-expect_word-2.ensures.passed
    c.in_err-expect.ensures.other)

pub returns-in_err-names-clause-fails : goal.returns-in_err-names-clause-fails
returns-in_err-names-clause-fails c =
    handed_on (FailsAuthority c.args.cursor.now) c.in_err-names.field-0.0 c.from_residual-in_err-names.result
    c.from_residual-in_err-names.ensures
    (principals_fail c.in_ok-expect_word.ensures.passed c.in_ok-expect_word-2.ensures.passed
    c.in_ok-expect.ensures.passed
    c.in_err-names.ensures.fails)

pub returns-in_err-expect-2-clause-fails : goal.returns-in_err-expect-2-clause-fails
returns-in_err-expect-2-clause-fails c =
    handed_on (FailsAuthority c.args.cursor.now) c.in_err-expect-2.field-0.0 c.from_residual-in_err-expect-2.result
    c.from_residual-in_err-expect-2.ensures
    (principals_end_fail c.in_ok-expect_word.ensures.passed c.in_ok-expect_word-2.ensures.passed
    c.in_ok-expect.ensures.passed c.in_ok-names.ensures.read c.in_err-expect-2.ensures.other)

pub returns-in_err-expect-3-clause-fails : goal.returns-in_err-expect-3-clause-fails
returns-in_err-expect-3-clause-fails c =
    handed_on (FailsAuthority c.args.cursor.now) c.in_err-expect-3.field-0.0 c.from_residual-in_err-expect-3.result
    c.from_residual-in_err-expect-3.ensures
    (authority_brace_fails c.in_ok-expect_word.ensures.passed c.in_ok-expect_word-2.ensures.passed
    c.in_ok-expect.ensures.passed c.in_ok-names.ensures.read c.in_ok-expect-2.ensures.passed
    c.in_err-expect-3.ensures.other)

pub returns-clause-read : goal.returns-clause-read
returns-clause-read c =
    authority_read c.in_ok-expect_word.ensures.passed c.in_ok-expect_word-2.ensures.passed c.in_ok-expect.ensures.passed
    c.in_ok-names.ensures.read c.in_ok-expect-2.ensures.passed c.in_ok-expect-3.ensures.passed
