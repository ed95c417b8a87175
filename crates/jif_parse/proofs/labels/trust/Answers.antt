use Rattle.jif_parse.specs.Parts.{FailsPart}
use Rattle.jif_parse.proofs.Exits.{handed_on}
use Rattle.jif_parse.proofs.PartLists.{mark_fails, members_fail, trust_end_fails, trust_of_members}
use Rattle.jif_parse.proofs.labels.trust.Goals as goal

pub returns-in_err-expect-clause-fails : goal.returns-in_err-expect-clause-fails
returns-in_err-expect-clause-fails c =
    handed_on (FailsPart c.args.cursor.now) c.in_err-expect.field-0.0 c.from_residual.result c.from_residual.ensures
    (mark_fails c.requires c.pass.ensures c.in_err-expect.ensures.other)

pub returns-in_err-members-clause-fails : goal.returns-in_err-members-clause-fails
returns-in_err-members-clause-fails c =
    handed_on (FailsPart c.args.cursor.now) c.in_err-members.field-0.0 c.from_residual-in_err-members.result
    c.from_residual-in_err-members.ensures
    (members_fail c.requires c.pass.ensures c.in_ok-expect.ensures.passed c.in_err-members.ensures.fails)

pub returns-in_err-expect-2-clause-fails : goal.returns-in_err-expect-2-clause-fails
returns-in_err-expect-2-clause-fails c =
    handed_on (FailsPart c.args.cursor.now) c.in_err-expect-2.field-0.0 c.from_residual-in_err-expect-2.result
    c.from_residual-in_err-expect-2.ensures
    (trust_end_fails c.requires c.pass.ensures c.in_ok-expect.ensures.passed c.in_ok-members.ensures.read
    c.in_err-expect-2.ensures.other)

pub returns-clause-read : goal.returns-clause-read
returns-clause-read c =
    trust_of_members c.requires c.pass.ensures c.in_ok-expect.ensures.passed c.in_ok-members.ensures.read
    c.in_ok-expect-2.ensures.passed
