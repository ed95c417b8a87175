use Rattle.std.proofs.lemmas.Result.{IfOk-weaker, IfErr-weaker}
use Rattle.jif_parse.specs.Phrases.{ReadsParts, FailsParts, ReadsLabel, FailsLabel}
use Rattle.jif_parse.proofs.Exits.{handed_on}
use Rattle.jif_parse.proofs.PartLists.{whole_label, label_parts_fail, label_fails}
use Rattle.jif_parse.proofs.labels.label.Goals as goal

pub returns-in_err-expect-clause-fails : goal.returns-in_err-expect-clause-fails
returns-in_err-expect-clause-fails c =
    handed_on (FailsLabel c.args.cursor.now) c.in_err-expect.field-0.0 c.from_residual.result c.from_residual.ensures
    (label_fails c.args.cursor.now c.in_err-expect.field-0.0 c.in_err-expect.ensures.other)

pub returns-clause-read : goal.returns-clause-read
returns-clause-read c =
    IfOk-weaker c.parts.result (ReadsParts c.expect.new.self c.parts.new.cursor)
    (ReadsLabel c.args.cursor.now c.parts.new.cursor)
    (λ draft reads. whole_label c.in_ok-expect.ensures.passed reads) c.parts.ensures.read

pub returns-clause-fails : goal.returns-clause-fails
returns-clause-fails c =
    IfErr-weaker c.parts.result (FailsParts c.expect.new.self) (FailsLabel c.args.cursor.now)
    (λ error fails. label_parts_fail c.in_ok-expect.ensures.passed fails) c.parts.ensures.fails
