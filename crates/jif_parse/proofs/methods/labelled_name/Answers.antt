use Rattle.jif_parse.specs.Methods.{FailsNamed}
use Rattle.jif_parse.proofs.Exits.{handed_on}
use Rattle.jif_parse.proofs.MethodParts.{name_behind_label_fails, named_read}
use Rattle.jif_parse.proofs.methods.labelled_name.Goals as goal

pub returns-in_err-name-clause-fails : goal.returns-in_err-name-clause-fails
returns-in_err-name-clause-fails c =
    handed_on (FailsNamed c.args.cursor.now) c.in_err-name.field-0.0 c.from_residual-in_err-name.result
    c.from_residual-in_err-name.ensures (name_behind_label_fails c.in_ok-label.ensures.read c.in_err-name.ensures.other)

pub returns-clause-read : goal.returns-clause-read
returns-clause-read c = named_read c.in_ok-label.ensures.read c.in_ok-name.ensures.read
