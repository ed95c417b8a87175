use Rattle.std.proofs.Common.{take}
use Rattle.std.specs.Prelude.{All}
use Rattle.net_world.specs.Fits.{WorldFits, HasOwnToken, world_of}
use Rattle.net_world.specs.Released.{AreReleased}
use Rattle.net_world.specs.Replay.{events_in}
use Rattle.net_world.specs.Steps.{HaveMade}
use Rattle.run_comparison.specs.Followed.{IsFollowed}
use Rattle.run_comparison.specs.FollowedRuns.{run_with}
use Rattle.run_comparison.proofs.following.seen_events.Given as goal

-- the events so far have happened, each of them one more step, with what is kept of them and what they released
abbrev pub invariant-loop-said : goal.invariant-loop-said
invariant-loop-said l = record {
  followed : IsFollowed l.code (world_of l.initial.world) (take l.said-index l.events)
      (run_with l.seen (world_of l.world));
  released : AreReleased l.code l.table (world_of l.initial.world) (events_in (take l.said-index l.events))
      l.released.items;
  fits : WorldFits l.code l.world;
  made : HaveMade l.said-index l.world.hosts;
  own : All (λ one. HasOwnToken (world_of l.world) one.1) l.events;
}
