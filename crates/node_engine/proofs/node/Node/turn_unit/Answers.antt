use Rattle.std.proofs.Common.{refl}
use Rattle.std.proofs.lemmas.Result.{on_ok_weaker, IfErr-weaker}
use Rattle.host_core.specs.Host.{state_of}
use Rattle.node_engine.specs.JournalLines.{turn_line}
use Rattle.node_engine.specs.Units.{step_parts}
use Rattle.node_engine.proofs.Breaking.{step_does, step_stops, step_then_stops}
use Rattle.node_engine.proofs.UnitParts.{turn_does, turn_stops}
use Rattle.node_engine.proofs.node.Node.turn_unit.Goals as goal

pub returns-in-Ok-clause-ok : goal.returns-in-Ok-clause-ok
returns-in-Ok-clause-ok g c =
    on_ok_weaker c.stepped.result
    (λ does. turn_does c.args.self.now _ _ _ _ c.requires.runs c.in-Ok.ensures.ok refl (step_does _ _ _ _ _ does))
    c.stepped.ensures.ok

pub returns-in-Ok-clause-err : goal.returns-in-Ok-clause-err
returns-in-Ok-clause-err g c =
    IfErr-weaker c.stepped.result _ _
    (λ error stops.
    turn_stops error c.args.self.now _ _ _ _ c.requires.runs c.in-Ok.ensures.ok refl
    (step_then_stops error _ _ _ _ _ stops))
    c.stepped.ensures.err

pub returns-in-Err-OutOfMemory-clause-err : goal.returns-in-Err-OutOfMemory-clause-err
returns-in-Err-OutOfMemory-clause-err g c =
    let some = c.step_laws.ensures.some_turn c.args.self.now.code.now (state_of c.args.self.now.host.now) in
    turn_stops _ c.args.self.now (step_parts c.args.self.now.code.now c.args.self.now.me c.args.self.now.seals.now turn_line some.0) some.0 _ _
    c.requires.runs some.1 refl (step_stops _ _ _ _ _ c.in-Err-OutOfMemory.ensures.keeps.err)
