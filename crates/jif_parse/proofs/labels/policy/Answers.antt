use Rattle.std.proofs.Common.{sym, ◌∙◌, refl, true, false}
use Rattle.std.proofs.lemmas.Bool.{false≢true}
use Rattle.jif_parse.specs.Parts.{FailsPart}
use Rattle.jif_parse.proofs.Exits.{handed_on}
use Rattle.jif_parse.proofs.PartLists.{owner_fails, colon_fails, readers_fail, behind_readers_of, policy_of_readers}
use Rattle.jif_parse.proofs.PartLists.{policy_end_fails}
use Rattle.jif_parse.proofs.labels.policy.Goals as goal

pub returns-in_err-owner-clause-fails : goal.returns-in_err-owner-clause-fails
returns-in_err-owner-clause-fails c =
    handed_on (FailsPart c.args.cursor.now) c.in_err-owner.field-0.0 c.from_residual.result c.from_residual.ensures
    (owner_fails c.args.cursor.now c.in_err-owner.field-0.0 c.requires c.in_err-owner.ensures.other)

pub returns-in_err-expect-clause-fails : goal.returns-in_err-expect-clause-fails
returns-in_err-expect-clause-fails c =
    handed_on (FailsPart c.args.cursor.now) c.in_err-expect.field-0.0 c.from_residual-in_err-expect.result
    c.from_residual-in_err-expect.ensures (colon_fails c.in_ok-owner.ensures.read c.in_err-expect.ensures.other)

pub returns-in_err-readers-clause-fails : goal.returns-in_err-readers-clause-fails
returns-in_err-readers-clause-fails c =
    handed_on (FailsPart c.args.cursor.now) c.in_err-readers.field-0.0 c.from_residual-in_err-readers.result
    c.from_residual-in_err-readers.ensures
    (readers_fail c.in_ok-owner.ensures.read c.in_ok-expect.ensures.passed c.in_err-readers.ensures.fails)

pub returns-then-is_next-clause-read : goal.returns-then-is_next-clause-read
returns-then-is_next-clause-read c =
    policy_of_readers true
    (behind_readers_of c.in_ok-owner.ensures.read c.in_ok-expect.ensures.passed c.in_ok-readers.ensures.read
    (record { owner = c.in_ok-owner.owner; readers = c.in_ok-readers.readers }) refl)
    (record { is_next = c.is_next.ensures.0 c.if-is_next.true; passes = c.pass.ensures })

pub returns-in_err-expect-2-clause-fails : goal.returns-in_err-expect-2-clause-fails
returns-in_err-expect-2-clause-fails c =
    handed_on (FailsPart c.args.cursor.now) c.in_err-expect-2.field-0.0 c.from_residual-in_err-expect-2.result
    c.from_residual-in_err-expect-2.ensures
    (policy_end_fails
    (behind_readers_of c.in_ok-owner.ensures.read c.in_ok-expect.ensures.passed c.in_ok-readers.ensures.read
    (record { owner = c.in_ok-owner.owner; readers = c.in_ok-readers.readers }) refl)
    (λ is. false≢true (sym c.if-is_next.false ∙ c.is_next.ensures.1 is)) c.in_err-expect-2.ensures.other)

pub returns-clause-read : goal.returns-clause-read
returns-clause-read c =
    policy_of_readers false
    (behind_readers_of c.in_ok-owner.ensures.read c.in_ok-expect.ensures.passed c.in_ok-readers.ensures.read
    (record { owner = c.in_ok-owner.owner; readers = c.in_ok-readers.readers }) refl)
    c.in_ok-expect-2.ensures.passed
