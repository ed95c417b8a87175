use Rattle.launch.specs.Starts.{SpawnerState, spawner_state}
use Rattle.launch.proofs.Starting.{launched}
use Rattle.launch.proofs.launching.launch.Goals as goal

pub returns-clause-launched : goal.returns-clause-launched
returns-clause-launched g c =
    let old : SpawnerState = spawner_state g.P.Spawner c.args.spawner.now in
    let mid : SpawnerState = spawner_state g.P.Spawner c.start_all.new.spawner in
    let new : SpawnerState = spawner_state g.P.Spawner c.wait_for_all.new.spawner in
    let begun = c.start_all.ensures.started in
    launched c.args.program.now _ c.start_all.new.answers.items c.wait_for_all.new.ends.items old mid new begun
    ((rw c.deref.ensures.value at c.wait_for_all.ensures.ended) old.live old.faults
    (record { live_is = begun.live; apart = begun.apart }) begun.faults)
