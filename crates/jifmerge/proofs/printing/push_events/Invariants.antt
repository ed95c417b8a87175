use Rattle.std.proofs.Common.{◌≡◌, ◌++◌, drop, map}
use Rattle.std.specs.String.{string_bytes}
use Rattle.event_text.specs.EventText.{event_text}
use Rattle.event_text.specs.ScriptText.{text_of_lines}
use Rattle.jifmerge.proofs.printing.push_events.Given as goal

-- what was put, and the lines of the events that are left, make the whole
abbrev pub invariant-loop-event : goal.invariant-loop-event
invariant-loop-event l =
    string_bytes l.text ++ text_of_lines (map (event_text l.code) (drop l.event-index l.events))
    ≡ string_bytes l.initial.text ++ text_of_lines (map (event_text l.code) l.events)
