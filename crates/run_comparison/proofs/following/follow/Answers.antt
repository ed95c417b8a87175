use Rattle.std.proofs.Common.{subst, sym}
use Rattle.net_world.specs.Fits.{world_of}
use Rattle.run_comparison.specs.Followed.{EventsFollowed, followed, refused}
use Rattle.run_comparison.specs.FollowedRuns.{run_with}
use Rattle.script_stages.specs.Scripts.{AreRefused}
use Rattle.front_end.specs.Stages.{stopped}
use Rattle.front_end.specs.Verdicts.{VerdictShape}
use Rattle.front_end.proofs.Stages.{stops_weaker}
use Rattle.run_comparison.proofs.following.follow.Goals as goal

pub returns-in-Ok : goal.returns-in-Ok
returns-in-Ok c = record {
  follow = followed (record {
    run = run_with c.in-Ok.seen (world_of c.seen_events.new.world);
    released = c.seen_events.new.released.items;
  }) c.in-Ok.ensures.followed c.in-Ok.ensures.released;
}

pub returns : goal.returns
returns c =
    let Stops : VerdictShape → Type 0 =
    λ verdict. EventsFollowed c.args.name.now c.args.code.now c.args.table.now (world_of c.args.from) c.args.events.now
    (stopped verdict) in
    record {
      follow = stops_weaker (AreRefused c.args.name.now c.args.code.now (world_of c.args.from) c.args.events.now) Stops
          c.events_refused.result (λ verdict was. subst Stops (sym was.3) (refused was.0 was.1 was.2))
          (c.events_refused.ensures c.args.code.now (world_of c.args.from) c.args.events.now c.in-Err.ensures.refused);
    }
