use Rattle.std.proofs.Common.{map, sym, subst}
use Rattle.std.proofs.lemmas.Result.{IfOk-weaker}
use Rattle.front_end.specs.Stages.{stopped}
use Rattle.front_end.specs.Starting.{StartingValues}
use Rattle.front_end.specs.Verdicts.{VerdictShape}
use Rattle.front_end.proofs.Stages.{stopped_with}
use Rattle.front_end.proofs.StartingDue.{are_bytes, start_too_long, start_has_bad_line, start_gives}
use Rattle.front_end.proofs.starting.starting_values.Goals as goal

pub returns-in_default : goal.returns-in_default
returns-in_default g c = λ s loaded.
    let fields = map g.F.ScriptField.form c.args.fields.now in
    let Stops : VerdictShape → Type 0 = λ verdict. StartingValues c.args.name.now s fields (stopped verdict) in
    stopped_with Stops c.too_long.result c.stopped.result
    (IfOk-weaker c.too_long.result _ _ (λ verdict is.
    subst Stops (sym is) (start_too_long c.args.name.now s fields c.args.start.now c.in_default.is loaded))
    c.too_long.ensures)
    c.stopped.ensures

pub returns-in-Ok : goal.returns-in-Ok
returns-in-Ok g c = λ s loaded.
    start_gives c.args.name.now s c.deref.result.now (map g.F.ScriptField.form c.args.fields.now) c.in-Ok.store
    (are_bytes s c.deref.result.now c.args.start.now c.in-Bytes.bytes c.in-Bytes.is c.deref.ensures.value loaded)
    c.in-Ok.ensures.answer.1

pub returns-in-Err-BadLine : goal.returns-in-Err-BadLine
returns-in-Err-BadLine g c = λ s loaded.
    let fields = map g.F.ScriptField.form c.args.fields.now in
    let Stops : VerdictShape → Type 0 = λ verdict. StartingValues c.args.name.now s fields (stopped verdict) in
    stopped_with Stops c.at_line.result c.stopped-in-Err-BadLine.result
    (IfOk-weaker c.at_line.result _ _ (λ verdict is.
    subst Stops (sym is) (start_has_bad_line c.args.name.now s c.deref.result.now fields c.in-Err-BadLine.line
    (are_bytes s c.deref.result.now c.args.start.now c.in-Bytes.bytes c.in-Bytes.is c.deref.ensures.value loaded)
    (rw c.in-Err-BadLine.field-0-is at c.in-Err-BadLine.ensures.answer).1))
    c.at_line.ensures)
    c.stopped-in-Err-BadLine.ensures
