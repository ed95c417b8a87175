use Rattle.std.proofs.Common.{◌-◌}
use Rattle.std.specs.Prelude.{map}
use Rattle.net_world.specs.Fits.{WorldFits, world_of}
use Rattle.net_world.specs.Steps.{HaveMade}
use Rattle.record_merge.specs.JournalLines.{journal_of, lines_in, met, HasMerged}
use Rattle.record_merge.proofs.merging.walk.Given as goal

-- the events so far happened, and meet the journals up to their places
abbrev pub invariant-loop-events : goal.invariant-loop-events
invariant-loop-events l = record {
  fits : WorldFits l.code l.world;
  made : HaveMade (met l.places.items) l.world.hosts;
  merged : HasMerged l.code (world_of l.initial.world) (map (λ journal. journal_of journal.items) l.journals)
      l.events.items (world_of l.world) l.places.items l.left.items;
}

-- the lines of journals that are left
abbrev pub decreases-loop-events : goal.decreases-loop-events
decreases-loop-events l =
    lines_in (map (λ journal. journal_of journal.items) l.journals) - met l.places.items
