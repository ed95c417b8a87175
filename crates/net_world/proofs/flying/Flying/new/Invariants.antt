use Rattle.std.proofs.Common.{◌≡◌, [], length}
use Rattle.std.specs.Prelude.{All, replicate}
use Rattle.net_world.specs.Flying.{IsQueueCounted, flights_of}
use Rattle.net_world.proofs.flying.Flying.new.Given as goal

-- so many queues were made, and all are empty
abbrev pub invariant-loop-made : goal.invariant-loop-made
invariant-loop-made l = record {
  count : length l.queues.items ≡ l.made;
  counted : All (IsQueueCounted l.readable.items) l.queues.items;
  empty : flights_of l.queues.items ≡ replicate l.made [];
}
