use Rattle.std.proofs.Common.{sym, subst}
use Rattle.std.proofs.lemmas.Result.{IfOk-weaker}
use Rattle.script_stages.specs.Scripts.{ScriptRead}
use Rattle.front_end.specs.Stages.{stopped}
use Rattle.front_end.specs.Verdicts.{VerdictShape}
use Rattle.script_stages.proofs.ScriptReads.{script_too_long, script_has_bad_line, script_says}
use Rattle.front_end.proofs.Stages.{stopped_with}
use Rattle.front_end.proofs.StartingDue.{are_bytes}
use Rattle.script_stages.proofs.scripts.read_script.Goals as goal

pub returns-in_default-clause-read : goal.returns-in_default-clause-read
returns-in_default-clause-read c = λ e loaded.
    let Stops : VerdictShape → Type 0 = λ verdict. ScriptRead c.args.name.now e c.args.code.now (stopped verdict) in
    stopped_with Stops c.too_long.result c.stopped.result
    (IfOk-weaker c.too_long.result _ _ (λ verdict is.
    subst Stops (sym is) (script_too_long c.args.name.now e c.args.code.now c.args.script.now c.in_default.is loaded))
    c.too_long.ensures)
    c.stopped.ensures

pub returns-in-Ok-clause-read : goal.returns-in-Ok-clause-read
returns-in-Ok-clause-read c = λ e loaded.
    script_says c.args.name.now e c.deref.result.now c.args.code.now c.in-Ok.said
    (are_bytes e c.deref.result.now c.args.script.now c.in-Bytes.bytes c.in-Bytes.is c.deref.ensures.value loaded)
    c.in-Ok.ensures.answer.1

pub returns-in-Err-BadLine-clause-read : goal.returns-in-Err-BadLine-clause-read
returns-in-Err-BadLine-clause-read c = λ e loaded.
    let Stops : VerdictShape → Type 0 = λ verdict. ScriptRead c.args.name.now e c.args.code.now (stopped verdict) in
    stopped_with Stops c.at_line.result c.stopped-in-Err-BadLine.result
    (IfOk-weaker c.at_line.result _ _ (λ verdict is.
    subst Stops (sym is) (script_has_bad_line c.args.name.now e c.deref.result.now c.args.code.now
    c.in-Err-BadLine.line
    (are_bytes e c.deref.result.now c.args.script.now c.in-Bytes.bytes c.in-Bytes.is c.deref.ensures.value loaded)
    (rw c.in-Err-BadLine.field-0-is at c.in-Err-BadLine.ensures.answer).1))
    c.at_line.ensures)
    c.stopped-in-Err-BadLine.ensures
