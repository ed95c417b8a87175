use Rattle.std.proofs.Common.{◌≡◌, ◌≤◌, ◌+◌, length}
use Rattle.std.specs.Str.Lines.{lines}
use Rattle.record_merge.specs.declared.lines.TheConstants.{JOURNAL_BYTES}
use Rattle.event_text.specs.Lines.{said_from}
use Rattle.record_merge.proofs.lines.next_line.Given as goal

-- the lines so far are skipped
abbrev pub invariant-loop-line : goal.invariant-loop-line
invariant-loop-line l = record {
  said : said_from l.left.number (lines l.left.bytes.now) ≡ said_from l.from.number (lines l.from.bytes.now);
  shorter : length l.left.bytes.now ≤ length l.from.bytes.now;
  few : l.left.number + length l.left.bytes.now ≤ JOURNAL_BYTES + 1;
}

abbrev pub decreases-loop-line : goal.decreases-loop-line
decreases-loop-line l = length l.left.bytes.now
