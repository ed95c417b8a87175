use Rattle.std.proofs.Common.{arith, ap, length}
use Rattle.std.proofs.lemmas.List.FromFn.{length-map-range_with_len}
use Rattle.plan_picture.specs.Columns.{width_of}
use Rattle.plan_picture.specs.Sheets.{sheet_shape}
use Rattle.plan_picture.proofs.Walks.{value_more}
use Rattle.plan_picture.proofs.columns.widths_of.Goals as goal

pub loop-number-preserved : goal.loop-number-preserved
loop-number-preserved c =
    value_more (λ number. width_of (sheet_shape c.args.sheet.now) c.args.rows.now (record { 0 = number }))
    c.loop-number.number c.loop-number.widths.items _ _ c.loop-number.invariant c.in_ok-width_of.ensures
    c.in_ok-push.ensures.items

pub returns-clause-few : goal.returns-clause-few
returns-clause-few c =
    let sheet = sheet_shape c.args.sheet.now in
    let many = length-map-range_with_len (λ number. width_of sheet c.args.rows.now (record { 0 = number })) 0
    c.loop-number.number in
    omega (arith, many, ap length c.loop-number.invariant)
