-- How a world ends in which nobody chooses: the event that comes next happens, again and again.
use Rattle.std.specs.Prelude.{◌≡◌, ℕ, ◌≤◌, List, length, Some, None}
use Rattle.js_base.specs.declared.status.Status.{Status}
use Rattle.js_base.specs.declared.status.Status.TheVariants.{Done, Spent}
use Rattle.event_text.specs.declared.event.Event.{Event}
use Rattle.host_code.specs.Code.{CodeShape}
use Rattle.net_world.specs.Choice.{IsNextEvent}
use Rattle.net_world.specs.World.{WorldShape}
use Rattle.simulation.specs.Driven.{IsDriven}
use Rattle.split_cli.specs.declared.driving.Driven.{Driven}

-- How a world ends that is driven by at most so many events: it is at rest, or so many have happened and one more would
-- come next.
pub data DrivesTo (code : CodeShape) (world : WorldShape) (most : ℕ) (events : List Event) (after : WorldShape) :
    Status → Type 0 where
  rested : length events ≤ most → IsDriven code world events after → IsNextEvent after None →
      DrivesTo code world most events after Done
  spent : (next : Event) → length events ≡ most → IsDriven code world events after → IsNextEvent after (Some next) →
      DrivesTo code world most events after Spent

-- ---- in the program

-- the status of a drive that leaves this world: nothing happens any more, or something would come next
pub data LeavesWith (world : WorldShape) : Status → Type 0 where
  at_rest : IsNextEvent world None → LeavesWith world Done
  unended : (next : Event) → IsNextEvent world (Some next) → LeavesWith world Spent

-- so many events were made, and the world ended with this status
pub record HasDriven (code : CodeShape) (world : WorldShape) (most : ℕ) (after : WorldShape) (driven : Driven) :
    Type 0 where
  pub events : List Event
  pub made : length events ≡ driven.made
  pub ends : DrivesTo code world most events after driven.status
