use Rattle.jif_parse.specs.Statements.{FailsLocalName}
use Rattle.jif_parse.proofs.Exits.{handed_on}
use Rattle.jif_parse.proofs.StatementParts.{label_fails, name_fails, labelled_read, bare_name_fails, bare_name_read}
use Rattle.jif_parse.proofs.assignments.local_name.Goals as goal
use Rattle.std.proofs.Common.{refl}
use Rattle.std.proofs.lemmas.Bool.{false≢true}

pub returns-in_err-label-clause-fails : goal.returns-in_err-label-clause-fails
returns-in_err-label-clause-fails c =
    handed_on (FailsLocalName c.args.cursor.now) c.in_err-label.field-0.0 c.from_residual.result
    c.from_residual.ensures
    (label_fails (record {
      is_next = c.if-is_next.ensures.0 refl;
      passes =
          c.pass.ensures;
    }) c.in_err-label.ensures.fails)

pub returns-in_err-name-clause-fails : goal.returns-in_err-name-clause-fails
returns-in_err-name-clause-fails c =
    handed_on (FailsLocalName c.args.cursor.now) c.in_err-name.field-0.0 c.from_residual-in_err-name.result
    c.from_residual-in_err-name.ensures
    (name_fails (record { is_next = c.if-is_next.ensures.0 refl; passes = c.pass.ensures }) c.in_ok-label.ensures.read
    c.in_err-name.ensures.other)

pub returns-then-is_next-clause-read : goal.returns-then-is_next-clause-read
returns-then-is_next-clause-read c =
    labelled_read (record { is_next = c.if-is_next.ensures.0 refl; passes = c.pass.ensures })
    c.in_ok-label.ensures.read c.in_ok-name.ensures.read

pub returns-in_err-name-2-clause-fails : goal.returns-in_err-name-2-clause-fails
returns-in_err-name-2-clause-fails c =
    handed_on (FailsLocalName c.args.cursor.now) c.in_err-name-2.field-0.0 c.from_residual-in_err-name-2.result
    c.from_residual-in_err-name-2.ensures
    (bare_name_fails (λ h. false≢true (c.if-is_next.ensures.1 h)) c.in_err-name-2.ensures.other)

pub returns-clause-read : goal.returns-clause-read
returns-clause-read c = bare_name_read c.in_ok-name-2.ensures.read
