use Rattle.std.proofs.Common.{ap, arith}
use Rattle.std.proofs.lemmas.Result.{IfOk-weaker}
use Rattle.jiftokens.specs.Answers as answers
use Rattle.jiftokens.proofs.answers.answer_for_text.Goals as goal

pub refused_at-requires-clause-within : goal.refused_at-requires-clause-within
refused_at-requires-clause-within c =
    let fails = rw c.in-Err-BadByte.field-0-is at c.in-Err-BadByte.ensures in
    let inside = c.reading_laws.ensures.bad_byte c.args.text.now c.in-Err-BadByte.at fails.1 in
    omega arith

pub refused_at-requires-in-Err-BadNumber-clause-within : goal.refused_at-requires-in-Err-BadNumber-clause-within
refused_at-requires-in-Err-BadNumber-clause-within c =
    let fails = rw c.in-Err-BadNumber.field-0-is at c.in-Err-BadNumber.ensures in
    let inside = c.reading_laws.ensures.bad_number c.args.text.now c.in-Err-BadNumber.at fails.1 in
    omega arith

pub returns-in_ok-listing-in-Ok : goal.returns-in_ok-listing-in-Ok
returns-in_ok-listing-in-Ok c =
    answers.listed c.in-Ok.tokens.items c.in-Ok.ensures.0 c.in-Ok.ensures.1
    (ap answers.lists (rw c.deref.ensures.value at c.in_ok-listing-in-Ok.ensures))

pub returns-in-Err-BadByte : goal.returns-in-Err-BadByte
returns-in-Err-BadByte c =
    let fails = rw c.in-Err-BadByte.field-0-is at c.in-Err-BadByte.ensures in
    IfOk-weaker c.refused_at.result _ _ (λ answer is. answers.byte c.in-Err-BadByte.at fails.0 fails.1 is)
    c.refused_at.ensures

pub returns-in-Err-BadNumber : goal.returns-in-Err-BadNumber
returns-in-Err-BadNumber c =
    let fails = rw c.in-Err-BadNumber.field-0-is at c.in-Err-BadNumber.ensures in
    IfOk-weaker c.refused_at-in-Err-BadNumber.result _ _
    (λ answer is. answers.number c.in-Err-BadNumber.at fails.0 fails.1 is) c.refused_at-in-Err-BadNumber.ensures

pub returns-in-Err-TooLong : goal.returns-in-Err-TooLong
returns-in-Err-TooLong c =
    let long = rw c.in-Err-TooLong.field-0-is at c.in-Err-TooLong.ensures in
    IfOk-weaker c.too_long.result _ _ (λ answer is. answers.long long is) c.too_long.ensures
