-- A run that the program follows, event by event.
use Rattle.std.specs.Prelude.{ℕ, [], ◌∷◌, ◌++◌, map, Option, Some, None}
use Rattle.event_text.specs.declared.event.Event.{Event}
use Rattle.host_code.specs.Code.{CodeShape}
use Rattle.net_world.specs.Fits.{world_of}
use Rattle.net_world.specs.Secret.{IsSecret, IsQuiet}
use Rattle.net_world.specs.World.{WorldShape}
use Rattle.run_comparison.specs.declared.following.Followed as following
use Rattle.run_comparison.specs.declared.following.Seen as seeing
use Rattle.run_comparison.specs.Followed.{Followed, FollowedRun}

-- what is kept of events, and the world that they left
abbrev pub run_with : seeing.Seen → WorldShape → Followed
run_with seen world = record { seen = map (λ one. one.now) seen.events.items; late = seen.late; last = world }

-- and the values that they released
abbrev pub run_of : following.Followed → FollowedRun
run_of it = record { run = run_with it.seen (world_of it.world); released = it.released.items }

-- the line that was late first
abbrev pub first_late : Option ℕ → ℕ → Option ℕ
first_late (Some line) later = Some line
first_late None later = Some later

-- what is kept after one more event, that happens in this world
pub data IsEventAdded (code : CodeShape) (world : WorldShape) (one : ℕ × Event) (run : Followed) : Followed →
    Type 0 where
  hidden : IsSecret code world one.1 → IsEventAdded code world one run run
  prompt : ¬ IsSecret code world one.1 → IsQuiet code world →
      IsEventAdded code world one run (record { seen = run.seen ++ one ∷ []; late = run.late; last = run.last })
  untimely : ¬ IsSecret code world one.1 → ¬ IsQuiet code world → IsEventAdded code world one run
      (record { seen = run.seen ++ one ∷ []; late = first_late run.late one.0; last = run.last })
