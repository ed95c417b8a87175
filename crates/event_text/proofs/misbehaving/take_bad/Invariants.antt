use Rattle.std.proofs.Common.{◌≡◌, ◌≤◌, ◌+◌, length}
use Rattle.std.specs.Str.Lines.{lines}
use Rattle.js_base.specs.declared.limits.TheConstants.{SCRIPT_BYTES}
use Rattle.event_text.specs.Lines.{said_from}
use Rattle.event_text.specs.Misbehaving.{bad_in_front, past_bad, with_hosts}
use Rattle.event_text.proofs.misbehaving.take_bad.Given as goal

-- what the lines that are left name, and those after them, from here on
abbrev pub invariant-loop-line : goal.invariant-loop-line
invariant-loop-line l = record {
  bad :
      with_hosts l.bad (bad_in_front l.hosts (said_from l.left.number (lines l.left.bytes.now)))
      ≡ with_hosts 0 (bad_in_front l.hosts (said_from l.from.number (lines l.from.bytes.now)));
  past :
      past_bad l.hosts (said_from l.left.number (lines l.left.bytes.now))
      ≡ past_bad l.hosts (said_from l.from.number (lines l.from.bytes.now));
  few : l.left.number + length l.left.bytes.now ≤ SCRIPT_BYTES + 1;
}

abbrev pub decreases-loop-line : goal.decreases-loop-line
decreases-loop-line l = length l.left.bytes.now
