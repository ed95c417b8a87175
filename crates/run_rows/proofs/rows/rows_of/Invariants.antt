use Rattle.std.proofs.Common.{◌≡◌, length, take}
use Rattle.std.specs.Prelude.{All}
use Rattle.net_world.specs.Fits.{WorldFits, HasOwnToken, world_of}
use Rattle.net_world.specs.Steps.{HaveMade}
use Rattle.run_rows.specs.Rows.{IsPictured, WhatFits, first_moment}
use Rattle.run_rows.specs.Senders.{AreBeside}
use Rattle.run_rows.specs.Stacks.{AreStacks}
use Rattle.run_rows.proofs.rows.rows_of.Given as goal

-- the events so far have happened, each of them one more step, these are their rows, and the
-- stacks follow
abbrev pub invariant-loop-line : goal.invariant-loop-line
invariant-loop-line l = record {
  pictured : IsPictured l.code (first_moment (world_of l.initial.world)) (take l.line-index l.events) l.rows.items
      (record { world = world_of l.world; senders = l.senders; count = l.line-index });
  fitting : All (λ row. WhatFits l.code row.what) l.rows.items;
  count : length l.rows.items ≡ l.line-index;
  beside : AreBeside l.senders (world_of l.world).flying;
  stacks : AreStacks (world_of l.world) l.stacks;
  fits : WorldFits l.code l.world;
  made : HaveMade l.line-index l.world.hosts;
  own : All (λ one. HasOwnToken (world_of l.world) one.1) l.events;
}
