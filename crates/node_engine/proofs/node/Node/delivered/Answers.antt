use Rattle.std.proofs.Common.{refl}
use Rattle.std.proofs.lemmas.Result.{on_ok_weaker, IfErr-weaker}
use Rattle.host_core.specs.Host.{state_of}
use Rattle.node_engine.specs.declared.node_error.NodeError.TheVariants as node_error
use Rattle.node_engine.specs.JournalLines.{take_line}
use Rattle.node_engine.specs.Units.{step_parts}
use Rattle.node_engine.proofs.Breaking.{handed, step_does, step_stops, step_then_stops}
use Rattle.node_engine.proofs.node.Node.delivered.Goals as goal

pub returns-in_err-line-clause-err : goal.returns-in_err-line-clause-err
returns-in_err-line-clause-err g c =
    let code = c.args.self.now.code.now in
    let some = c.step_laws.ensures.some_taking code (state_of c.args.self.now.host.now) c.args.from c.args.message.now
    in
    handed _ node_error.OutOfMemory c.from_residual.result c.from_residual.ensures (
      step_parts code c.args.self.now.me c.args.self.now.seals.now (take_line code c.args.from c.args.message.now) some.0,
      (some.0, some.1, refl),
      step_stops _ _ _ _ _ refl,
    )

pub returns-in-Ok-clause-ok : goal.returns-in-Ok-clause-ok
returns-in-Ok-clause-ok g c =
    let code = c.args.self.now.code.now in
    on_ok_weaker c.stepped.result
    (λ does. (
      step_parts code c.args.self.now.me c.args.self.now.seals.now (take_line code c.args.from c.args.message.now) _,
      (_, c.in-Ok.ensures.ok, refl),
      step_does _ _ _ _ _ does,
    ))
    (rw (c.deref.ensures, c.in_ok-line.ensures) at c.stepped.ensures.ok)

pub returns-in-Ok-clause-err : goal.returns-in-Ok-clause-err
returns-in-Ok-clause-err g c =
    let code = c.args.self.now.code.now in
    IfErr-weaker c.stepped.result _ _
    (λ error stops. (
      step_parts code c.args.self.now.me c.args.self.now.seals.now (take_line code c.args.from c.args.message.now) _,
      (_, c.in-Ok.ensures.ok, refl),
      step_then_stops error _ _ _ _ _ stops,
    ))
    (rw (c.deref.ensures, c.in_ok-line.ensures) at c.stepped.ensures.err)

pub returns-clause-err : goal.returns-clause-err
returns-clause-err g c =
    let code = c.args.self.now.code.now in
    let some = c.step_laws.ensures.some_taking code (state_of c.args.self.now.host.now) c.args.from c.args.message.now
    in (
      step_parts code c.args.self.now.me c.args.self.now.seals.now (take_line code c.args.from c.args.message.now) some.0,
      (some.0, some.1, refl),
      step_stops _ _ _ _ _ c.in-Err-OutOfMemory.ensures.keeps.err,
    )
