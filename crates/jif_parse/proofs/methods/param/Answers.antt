use Rattle.std.proofs.Common.{refl}
use Rattle.std.proofs.lemmas.Bool.{false≢true}
use Rattle.jif_parse.proofs.Exits.{handed_on}
use Rattle.jif_parse.specs.Methods.{FailsParam}
use Rattle.jif_parse.proofs.MethodParts.{no_param, param_over, param_fails, param_read}
use Rattle.jif_parse.proofs.methods.param.Goals as goal

pub returns-then-not-is_word_next-clause-fails : goal.returns-then-not-is_word_next-clause-fails
returns-then-not-is_word_next-clause-fails c =
    no_param c.unexpected.ensures (λ h. false≢true (c.if-not-is_word_next.ensures.1 h))

pub returns-in_err-take-clause-fails : goal.returns-in_err-take-clause-fails
returns-in_err-take-clause-fails c =
    handed_on (FailsParam c.args.cursor.now) c.in_err-take.field-0.0 c.from_residual.result c.from_residual.ensures
    (param_over (c.if-not-is_word_next.ensures.0 refl) c.in_err-take.ensures.over)

pub returns-in_err-label-clause-fails : goal.returns-in_err-label-clause-fails
returns-in_err-label-clause-fails c =
    handed_on (FailsParam c.args.cursor.now) c.in_err-label.field-0.0 c.from_residual-in_err-label.result
    c.from_residual-in_err-label.ensures
    (param_fails (c.if-not-is_word_next.ensures.0 refl) c.in_ok-take.ensures.counted c.in_err-label.ensures.fails)

pub returns-clause-read : goal.returns-clause-read
returns-clause-read c =
    param_read c.widths_of_phrases.ensures (c.if-not-is_word_next.ensures.0 refl) c.in_ok-take.ensures.counted
    c.in_ok-label.ensures.read
