use Rattle.std.proofs.Common.{◌≡◌, ◌≤◌, ◌*◌, ◌++◌, drop}
use Rattle.std.specs.Prelude.{map}
use Rattle.js_base.specs.declared.limits.TheConstants.{SCRIPT_BYTES}
use Rattle.record_merge.specs.JournalLines.{all_of, lines_in, said_of}
use Rattle.record_merge.specs.Journals.{first_fault, journal_lines}
use Rattle.record_merge.specs.Reading.{bytes_of}
use Rattle.record_merge.proofs.reading.read_journals.Given as goal

-- the journals so far, and the lines of those that are left, are those of all
abbrev pub invariant-loop-number : goal.invariant-loop-number
invariant-loop-number l = record {
  read :
      said_of l.all.items ++ map journal_lines (bytes_of (drop l.number l.journals))
      ≡ map journal_lines (bytes_of l.journals);
  sound :
      first_fault l.code l.number (bytes_of (drop l.number l.journals))
      ≡ first_fault l.code 0 (bytes_of l.journals);
  few : lines_in (all_of l.all.items) ≤ SCRIPT_BYTES * l.number;
}
