use Rattle.std.proofs.Common.{subst, sym}
use Rattle.net_world.specs.Fits.{world_of}
use Rattle.script_stages.specs.Scripts.{AreRefused, EventsHappen, happened, refused}
use Rattle.front_end.specs.Stages.{stopped}
use Rattle.front_end.specs.Verdicts.{VerdictShape}
use Rattle.front_end.proofs.Stages.{stops_weaker}
use Rattle.script_stages.proofs.scripts.events_happen.Goals as goal

pub returns-in-Ok-clause-happen : goal.returns-in-Ok-clause-happen
returns-in-Ok-clause-happen c = happened (world_of c.replay.new.world) c.in-Ok.ensures.happened

pub returns-in-Err-clause-happen : goal.returns-in-Err-clause-happen
returns-in-Err-clause-happen c =
    let Stops : VerdictShape → Type 0 =
    λ verdict. EventsHappen c.args.name.now c.args.code.now (world_of c.args.from) c.args.events.now
    (stopped verdict) in
    stops_weaker (AreRefused c.args.name.now c.args.code.now (world_of c.args.from) c.args.events.now) Stops
    c.events_refused.result (λ verdict was. subst Stops (sym was.3) (refused was.0 was.1 was.2))
    (c.events_refused.ensures c.args.code.now (world_of c.args.from) c.args.events.now c.in-Err.ensures.refused)
