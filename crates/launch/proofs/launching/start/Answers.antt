use Rattle.launch.specs.Starts.{spawner_state}
use Rattle.launch.proofs.Starting.{spawned}
use Rattle.launch.proofs.launching.start.Goals as goal

pub returns : goal.returns
returns g c =
    spawned _ _ c.spawn.result (spawner_state g.P.Spawner c.args.spawner.now) (spawner_state g.P.Spawner
    c.spawn.new.self)
    c.spawn.ensures.live c.spawn.ensures.fresh c.spawn.ensures.err c.spawn.ensures.asked c.spawn.ensures.gave
    c.spawn.ensures.gave_none c.spawn.ensures.memory c.spawn.ensures.ended c.spawn.ensures.faults
    c.spawn.ensures.no_fault c.spawn.ensures.cause
