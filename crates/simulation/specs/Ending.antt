-- How soon hosts that all obey come to an end.
--
-- How soon hosts come to an end is said of all lists of events. Until the end one event is possible, so no list is
-- longer than the one that is driven, and the law needs no word on who chooses.
use Rattle.std.specs.Prelude.{ℕ, ◌≤◌, List, length, None}
use Rattle.event_text.specs.declared.event.Event.{Event}
use Rattle.host_code.specs.Code.{CodeShape}
use Rattle.net_world.specs.Choice.{IsNextEvent}
use Rattle.net_world.specs.World.{WorldShape, has_halted}
use Rattle.simulation.specs.Driven.{IsDriven}

-- the most events for a step of the plain run
abbrev pub EVENTS : ℕ
EVENTS = 4096

-- Where from a world on always the event that comes next happens, the program has halted after so many events at most,
-- and nothing happens any more.
pub record HaltsWithin (code : CodeShape) (most : ℕ) (world : WorldShape) : Type 0 where
  pub events : List Event
  pub few : length events ≤ most
  pub after : WorldShape
  pub driven : IsDriven code world events after
  pub at_rest : IsNextEvent after None
  pub halted : has_halted code.root after
