use Rattle.std.proofs.Common.{take}
use Rattle.std.specs.Prelude.{All}
use Rattle.net_world.specs.Fits.{WorldFits, HasOwnToken, world_of}
use Rattle.net_world.specs.Steps.{HaveMade}
use Rattle.net_world.specs.World.{IsRun}
use Rattle.net_world.specs.Replay.{events_in}
use Rattle.net_world.proofs.replaying.replay.Given as goal

-- the events so far have happened, each of them one more step, and the same hosts misbehave
abbrev pub invariant-loop-line : goal.invariant-loop-line
invariant-loop-line l = record {
  ran : IsRun l.code (world_of l.initial.world) (events_in (take l.line-index l.events)) (world_of l.world);
  fits : WorldFits l.code l.world;
  made : HaveMade l.line-index l.world.hosts;
  own : All (λ one. HasOwnToken (world_of l.world) one.1) l.events;
}
