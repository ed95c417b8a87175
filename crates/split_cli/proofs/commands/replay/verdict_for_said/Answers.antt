use Rattle.net_world.specs.Fits.{world_of}
use Rattle.front_end.specs.PlacedShapes.{placed_shape}
use Rattle.split_cli.specs.Replay.{DueForSaid}
use Rattle.script_stages.specs.Scripts.{EventsHappen}
use Rattle.front_end.specs.Stages.{given, stopped}
use Rattle.script_stages.proofs.ScriptReads.{events_as}
use Rattle.split_cli.proofs.ReplayDue.{events_stop, events_reported}
use Rattle.front_end.proofs.Stages.{due_handed_on, memory_ran_out, stops_weaker}
use Rattle.split_cli.proofs.commands.replay.verdict_for_said.Goals as goal

pub returns-in_err-first : goal.returns-in_err-first
returns-in_err-first c =
    memory_ran_out (DueForSaid c.args.name.now (placed_shape c.args.placed.now) c.args.said.now)
    c.from_residual.result c.from_residual.ensures

pub returns-in_err-last : goal.returns-in_err-last
returns-in_err-last c =
    let placed = placed_shape c.args.placed.now in
    due_handed_on (DueForSaid c.args.name.now placed c.args.said.now) c.in_err-last.field-0.0
    c.from_residual-in_err-last.result c.from_residual-in_err-last.ensures
    (stops_weaker
    (λ verdict. EventsHappen c.args.name.now c.args.code.now (world_of c.in_ok-first.first) c.events.result.now
    (stopped verdict))
    (DueForSaid c.args.name.now placed c.args.said.now) c.in_err-last.field-0.0
    (λ verdict stops.
    events_stop c.args.name.now placed c.args.said.now verdict
    (events_as c.args.name.now placed c.args.code.now c.args.said.now _ _ (stopped verdict) c.requires.code
    c.in_ok-first.ensures.first c.events.ensures stops))
    c.in_err-last.ensures.happen)

pub returns-in_err-text : goal.returns-in_err-text
returns-in_err-text c =
    memory_ran_out (DueForSaid c.args.name.now (placed_shape c.args.placed.now) c.args.said.now)
    c.from_residual-in_err-text.result c.from_residual-in_err-text.ensures

pub returns : goal.returns
returns c =
    let placed = placed_shape c.args.placed.now in
    events_reported c.args.name.now placed c.args.code.now c.args.said.now (world_of c.in_ok-last.last) _
    c.requires.code
    (events_as c.args.name.now placed c.args.code.now c.args.said.now _ _ (given (world_of c.in_ok-last.last))
    c.requires.code c.in_ok-first.ensures.first c.events.ensures c.in_ok-last.ensures.happen)
    c.in_ok-text.ensures
