use Rattle.std.proofs.Common.{rules}
use Rattle.std.proofs.lemmas.Int.{to_z-of_z}
use mir.Syntax.{w64}
use mir.Val.{SFits}
use Rattle.std.proofs.Common.{refl}
use Rattle.std.proofs.lemmas.Bool.{false≢true}
use Rattle.jif_parse.proofs.Exits.{handed_on}
use Rattle.jif_parse.specs.Fields.{FailsFieldEnd}
use Rattle.jif_parse.proofs.FieldParts.{unset_over, unset_read, array_over, array_fails, array_read, no_end_fails}
use Rattle.jif_parse.proofs.FieldParts.{set_over}
use Rattle.jif_parse.proofs.FieldParts.{set_fails, set_read}
use Rattle.jif_parse.proofs.fields.field_ending.Goals as goal

pub returns-in_err-take-clause-fails : goal.returns-in_err-take-clause-fails
returns-in_err-take-clause-fails c =
    handed_on (FailsFieldEnd c.args.cursor.now) c.in_err-take.field-0.0 c.from_residual.result c.from_residual.ensures
    (unset_over (c.if-is_next.ensures.0 refl) c.in_err-take.ensures.over)

pub returns-then-is_next-clause-read : goal.returns-then-is_next-clause-read
returns-then-is_next-clause-read c =
    unset_read (c.if-is_next.ensures.0 refl) c.in_ok-take.ensures.counted

pub returns-in_err-take-2-clause-fails : goal.returns-in_err-take-2-clause-fails
returns-in_err-take-2-clause-fails c =
    handed_on (FailsFieldEnd c.args.cursor.now) c.in_err-take-2.field-0.0 c.from_residual-in_err-take-2.result
    c.from_residual-in_err-take-2.ensures
    (array_over (c.if-is_next-2.ensures.0 refl) c.in_err-take-2.ensures.over)

pub returns-in_err-size-clause-fails : goal.returns-in_err-size-clause-fails
returns-in_err-size-clause-fails c =
    handed_on (FailsFieldEnd c.args.cursor.now) c.in_err-size.field-0.0 c.from_residual-in_err-size.result
    c.from_residual-in_err-size.ensures
    (array_fails (c.if-is_next-2.ensures.0 refl) c.in_ok-take-2.ensures.counted c.in_err-size.ensures.fails)

pub returns-then-is_next-2-clause-read : goal.returns-then-is_next-2-clause-read
returns-then-is_next-2-clause-read c =
    array_read (c.if-is_next-2.ensures.0 refl) c.in_ok-take-2.ensures.counted c.in_ok-size.ensures.read

pub returns-then-not-is_next-clause-fails : goal.returns-then-not-is_next-clause-fails
returns-then-not-is_next-clause-fails c =
    no_end_fails c.requires (λ h. false≢true (c.if-is_next.ensures.1 h)) (λ h. false≢true (c.if-is_next-2.ensures.1 h))
    (λ h. false≢true (c.if-not-is_next.ensures.1 h)) c.unexpected.ensures

pub returns-in_err-take-3-clause-fails : goal.returns-in_err-take-3-clause-fails
returns-in_err-take-3-clause-fails c =
    handed_on (FailsFieldEnd c.args.cursor.now) c.in_err-take-3.field-0.0 c.from_residual-in_err-take-3.result
    c.from_residual-in_err-take-3.ensures
    (set_over (c.if-not-is_next.ensures.0 refl) c.in_err-take-3.ensures.over)

pub returns-in_err-first-clause-fails : goal.returns-in_err-first-clause-fails
returns-in_err-first-clause-fails c =
    handed_on (FailsFieldEnd c.args.cursor.now) c.in_err-first.field-0.0 c.from_residual-in_err-first.result
    c.from_residual-in_err-first.ensures
    (set_fails (c.if-not-is_next.ensures.0 refl) c.in_ok-take-3.ensures.counted c.in_err-first.ensures.fails)

pub returns-clause-read : goal.returns-clause-read
returns-clause-read c =
    let fits : SFits w64 c.in_ok-first.first = search rules in
    rw (to_z-of_z w64 c.in_ok-first.first fits)
    (set_read (c.if-not-is_next.ensures.0 refl) c.in_ok-take-3.ensures.counted c.in_ok-first.ensures.read)
