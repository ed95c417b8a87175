-- A run of a script, with what is kept of it to compare it with another.
use Rattle.std.specs.Prelude.{◌≡◌, ℕ, ℤ, List, [], ◌∷◌, Option, Some, None}
use Rattle.event_text.specs.declared.event.Event.{Event}
use Rattle.host_code.specs.Code.{CodeShape}
use Rattle.net_world.specs.Released.{AreReleased}
use Rattle.net_world.specs.Secret.{IsSecret, IsQuiet}
use Rattle.net_world.specs.World.{WorldShape, IsStep, EventRefusal}
use Rattle.net_world.specs.Replay.{IsRefusedAt, events_in}
use Rattle.split_rules.specs.Releases.{ReleasesShape}
use Rattle.script_stages.specs.Scripts.{event_refused}
use Rattle.front_end.specs.Stages.{StageEnd, given, stopped}

-- The events that misbehaving hosts may see, each with its line; the line of the first of these at whose moment the
-- world was not quiet; and the world that all events leave.
pub record Followed : Type 0 where
  pub seen : List (ℕ × Event)
  pub late : Option ℕ
  pub last : WorldShape

-- What is kept of a run whose first event is this one, by what is kept of the rest. A secret event leaves no trace.
pub data IsTraceKept (code : CodeShape) (world : WorldShape) (one : ℕ × Event) (rest : Followed) : Followed →
    Type 0 where
  hidden : IsSecret code world one.1 → IsTraceKept code world one rest rest
  prompt : ¬ IsSecret code world one.1 → IsQuiet code world →
      IsTraceKept code world one rest (record { seen = one ∷ rest.seen; late = rest.late; last = rest.last })
  untimely : ¬ IsSecret code world one.1 → ¬ IsQuiet code world →
      IsTraceKept code world one rest (record { seen = one ∷ rest.seen; late = Some one.0; last = rest.last })

-- events happen one after the other, and this is kept of them
abbrev pub IsFollowed : CodeShape → WorldShape → List (ℕ × Event) → Followed → Type 0
IsFollowed code world [] run = run ≡ record { seen = []; late = None; last = world }
IsFollowed code world (one ∷ said) run =
    (next : WorldShape) × (rest : Followed) × IsStep code world one.1 next × IsFollowed code next said rest
    × IsTraceKept code world one rest run

-- what is kept of a run, and the values that its events released
pub record FollowedRun : Type 0 where
  pub run : Followed
  pub released : List ℤ

-- The events of a script of this name all happen, or the first that is refused stops the command. The table tells what
-- the instructions of the code release.
pub data EventsFollowed (file : List ℕ) (code : CodeShape) (table : ReleasesShape) (world : WorldShape)
    (said : List (ℕ × Event)) : StageEnd FollowedRun → Type 0 where
  followed : (it : FollowedRun) → IsFollowed code world said it.run →
      AreReleased code table world (events_in said) it.released → EventsFollowed file code table world said (given it)
  refused : (at : ℕ × Event) (why : EventRefusal) → IsRefusedAt code world said at why →
      EventsFollowed file code table world said (stopped (event_refused file at why))
