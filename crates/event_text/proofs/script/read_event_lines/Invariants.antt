use Rattle.std.proofs.Common.{◌≡◌, ◌≤◌, ◌+◌, length}
use Rattle.std.specs.Str.Lines.{lines}
use Rattle.js_base.specs.declared.limits.TheConstants.{SCRIPT_BYTES}
use Rattle.event_text.specs.Lines.{said_from}
use Rattle.event_text.specs.Events.{events_of}
use Rattle.event_text.proofs.Told.{told}
use Rattle.event_text.proofs.script.read_event_lines.Given as goal

-- the events so far, and those of the lines that are left, are those of all lines
abbrev pub invariant-loop-line : goal.invariant-loop-line
invariant-loop-line l = record {
  events :
      told l.events.items (events_of l.code l.bad (said_from l.left.number (lines l.left.bytes.now)))
      ≡ events_of l.code l.bad (said_from l.from.number (lines l.from.bytes.now));
  few : l.left.number + length l.left.bytes.now ≤ SCRIPT_BYTES + 1;
}

abbrev pub decreases-loop-line : goal.decreases-loop-line
decreases-loop-line l = length l.left.bytes.now
