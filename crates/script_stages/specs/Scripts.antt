-- A script that is read, and events that happen, as stages of a command.
--
-- A refused event is told by the cause that the world gives. There is one case for all four causes, and one function
-- makes the line of it.
use Rattle.std.specs.Prelude.{◌≡◌, ℕ, ◌<◌, ◌≤◌, List, length, Ok, Err}
use Rattle.js_base.specs.declared.limits.TheConstants.{SCRIPT_BYTES}
use Rattle.event_text.specs.declared.event.Event.{Event}
use Rattle.event_text.specs.Script.{ScriptShape, script_of}
use Rattle.host_code.specs.Code.{CodeShape}
use Rattle.net_world.specs.Replay.{events_in, IsRefusedAt, number_presented}
use Rattle.net_world.specs.World.{WorldShape, EventRefusal, not_bad, not_there, host_busy, no_such_token, IsRun}
use Rattle.front_end.specs.Stages.{StageEnd, given, stopped}
use Rattle.front_end.specs.Verdicts.{VerdictShape, too_long, no_form, event_not_there}
use Rattle.front_end.specs.Verdicts.{event_host_busy, event_not_misbehaving, event_no_token}

-- what refuses a script whose event on this line is refused
abbrev pub event_refused : List ℕ → ℕ × Event → EventRefusal → VerdictShape
event_refused file at not_there = event_not_there file at.0
event_refused file at host_busy = event_host_busy file at.0
event_refused file at not_bad = event_not_misbehaving file at.0
event_refused file at (no_such_token count) = event_no_token file at.0 (number_presented at.1) count

-- the first event that is refused is one that this verdict refuses
abbrev pub AreRefused : (file : List ℕ) → CodeShape → WorldShape → List (ℕ × Event) → VerdictShape → Type 0
AreRefused file code world said verdict =
    (at : ℕ × Event) × (why : EventRefusal) × IsRefusedAt code world said at why × (verdict ≡ event_refused file at why)

-- ---- the stages, where a file has this name and holds these bytes

-- what the script says
pub data ScriptRead (file script : List ℕ) (code : CodeShape) : StageEnd ScriptShape → Type 0 where
  long : SCRIPT_BYTES < length script → ScriptRead file script code (stopped (too_long file))
  bad_line : (line : ℕ) → length script ≤ SCRIPT_BYTES → script_of code script ≡ Err line →
      ScriptRead file script code (stopped (no_form file line))
  read : (said : ScriptShape) → length script ≤ SCRIPT_BYTES → script_of code script ≡ Ok said →
      ScriptRead file script code (given said)

-- events happen one after the other, and leave a world, or the first that is refused stops them
pub data EventsHappen (file : List ℕ) (code : CodeShape) (world : WorldShape) (said : List (ℕ × Event)) :
    StageEnd WorldShape → Type 0 where
  happened : (last : WorldShape) → IsRun code world (events_in said) last →
      EventsHappen file code world said (given last)
  refused : (at : ℕ × Event) (why : EventRefusal) → IsRefusedAt code world said at why →
      EventsHappen file code world said (stopped (event_refused file at why))
