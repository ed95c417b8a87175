use Rattle.std.proofs.Common.{◌≡◌, ◌≤◌, ◌+◌, ◌++◌, length}
use Rattle.std.specs.Prelude.{map}
use Rattle.std.specs.Str.Lines.{lines}
use Rattle.record_merge.specs.declared.lines.TheConstants.{JOURNAL_BYTES}
use Rattle.event_text.specs.Lines.{said_from, said_lines}
use Rattle.record_merge.specs.JournalLines.{said_line}
use Rattle.record_merge.specs.Journals.{first_bad, step_lines}
use Rattle.record_merge.proofs.reading.read_lines.Given as goal

-- the lines so far, and those that are merged of what is left, are those of all
abbrev pub invariant-loop-line : goal.invariant-loop-line
invariant-loop-line l = record {
  kept :
      map said_line l.list.items ++ step_lines (said_from l.left.number (lines l.left.bytes.now))
      ≡ step_lines (said_lines l.bytes);
  sound :
      first_bad l.code (said_from l.left.number (lines l.left.bytes.now))
      ≡ first_bad l.code (said_lines l.bytes);
  few : l.left.number + length l.left.bytes.now ≤ JOURNAL_BYTES + 1;
  fewer : length l.list.items + length l.left.bytes.now ≤ length l.bytes;
}

abbrev pub decreases-loop-line : goal.decreases-loop-line
decreases-loop-line l = length l.left.bytes.now
