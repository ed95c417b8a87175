use Rattle.std.proofs.Common.{◌^◌, ◌≤◌, arith, rules}
use Rattle.std.specs.Str.Parse.{digits_value}
use Rattle.js_base.proofs.DecimalDigits.{digits_value-next, digits_value-at_least}
use Rattle.js_base.proofs.digits.digits_value.Goals as goal

pub returns-in_err-checked_mul-clause-none : goal.returns-in_err-checked_mul-clause-none
returns-in_err-checked_mul-clause-none c =
    let least =
    digits_value-at_least c.args.digits.now c.loop-digit.digit-index c.loop-digit.value c.requires
    c.loop-digit-test.true c.loop-digit.invariant in
    let large : 2 ^ 64 ≤ digits_value 10 c.args.digits.now = omega (arith, c.in_err-checked_mul.ensures) in
    search (rules, large)

pub returns-in_err-value-clause-none : goal.returns-in_err-value-clause-none
returns-in_err-value-clause-none c =
    let least =
    digits_value-at_least c.args.digits.now c.loop-digit.digit-index c.loop-digit.value c.requires
    c.loop-digit-test.true c.loop-digit.invariant in
    let large : 2 ^ 64 ≤ digits_value 10 c.args.digits.now =
    omega (arith, c.in_err-value.ensures, c.in_ok-checked_mul.ensures, c.from.ensures) in
    search (rules, large)

pub loop-digit-preserved : goal.loop-digit-preserved
loop-digit-preserved c =
    let next =
    digits_value-next c.args.digits.now c.loop-digit.digit-index c.loop-digit.value c.requires
    c.loop-digit-test.true c.loop-digit.invariant in
    omega (arith, c.in_ok-value.ensures, c.in_ok-checked_mul.ensures, c.from.ensures)
