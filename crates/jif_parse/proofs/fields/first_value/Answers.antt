use Rattle.std.proofs.Common.{◌≡◌, ℤ, pos, rules}
use Rattle.std.proofs.lemmas.Int.{to_z-of_z, ints}
use Rattle.std.specs.Prelude.{◌-ℤ◌, neg_ℤ}
use mir.Syntax.{w64}
use mir.Val.{SFits}
use Rattle.std.proofs.Common.{refl, arith, sym, subst}
use Rattle.std.proofs.lemmas.Bool.{false≢true}
use Rattle.jif_parse.proofs.Exits.{handed_on}
use Rattle.jif_parse.specs.Fields.{FailsFirst}
use Rattle.jif_parse.proofs.FieldParts.{negative_fails, negative_end_fails, negative_read, first_fails, first_end_fails}
use Rattle.jif_parse.proofs.FieldParts.{first_read, neg_fits}
use Rattle.jif_parse.proofs.fields.first_value.Goals as goal

pub returns-in_err-first-clause-fails : goal.returns-in_err-first-clause-fails
returns-in_err-first-clause-fails c =
    handed_on (FailsFirst c.args.cursor.now) c.in_err-first.field-0.0 c.from_residual.result c.from_residual.ensures
    (negative_fails (record {
      is_next = c.if-is_next.ensures.0 refl;
      passes =
          c.pass.ensures;
    }) c.in_err-first.ensures.fails)

pub returns-in_err-expect-clause-fails : goal.returns-in_err-expect-clause-fails
returns-in_err-expect-clause-fails c =
    handed_on (FailsFirst c.args.cursor.now) c.in_err-expect.field-0.0 c.from_residual-in_err-expect.result
    c.from_residual-in_err-expect.ensures
    (negative_end_fails (record {
      is_next = c.if-is_next.ensures.0 refl;
      passes =
          c.pass.ensures;
    }) c.in_ok-first.ensures.read
    c.in_err-expect.ensures.other)

pub returns-then-is_next-clause-read : goal.returns-then-is_next-clause-read
returns-then-is_next-clause-read c =
    let z = c.in_ok-first.first in
    let fits : SFits w64 z = search rules in
    let same : pos 0 -ℤ z ≡ neg_ℤ z = omega (arith, ints) in
    let is = c.in_ok-first.ensures.read.value_is in
    let both : SFits w64 (neg_ℤ z) =
    subst (λ (x : ℤ). SFits w64 (neg_ℤ x)) (sym is)
    (neg_fits c.in_ok-first.ensures.read.number (subst (SFits w64) is fits)) in
    rw (to_z-of_z w64 z fits, same, to_z-of_z w64 (neg_ℤ z) both)
    (negative_read (record {
      is_next = c.if-is_next.ensures.0 refl;
      passes =
          c.pass.ensures;
    }) c.in_ok-first.ensures.read
    c.in_ok-expect.ensures.passed)

pub returns-in_err-first-2-clause-fails : goal.returns-in_err-first-2-clause-fails
returns-in_err-first-2-clause-fails c =
    handed_on (FailsFirst c.args.cursor.now) c.in_err-first-2.field-0.0 c.from_residual-in_err-first-2.result
    c.from_residual-in_err-first-2.ensures
    (first_fails (λ h. false≢true (c.if-is_next.ensures.1 h)) c.in_err-first-2.ensures.fails)

pub returns-in_err-expect-2-clause-fails : goal.returns-in_err-expect-2-clause-fails
returns-in_err-expect-2-clause-fails c =
    handed_on (FailsFirst c.args.cursor.now) c.in_err-expect-2.field-0.0 c.from_residual-in_err-expect-2.result
    c.from_residual-in_err-expect-2.ensures
    (first_end_fails c.in_ok-first-2.ensures.read c.in_err-expect-2.ensures.other)

pub returns-clause-read : goal.returns-clause-read
returns-clause-read c =
    let fits : SFits w64 c.in_ok-first-2.first = search rules in
    rw (to_z-of_z w64 c.in_ok-first-2.first fits)
    (first_read c.in_ok-first-2.ensures.read c.in_ok-expect-2.ensures.passed)
