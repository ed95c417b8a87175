use Rattle.std.proofs.Common.{◌≡◌, ℕ, ◌+◌, List, drop, length}
use Rattle.host_code.specs.CodeParts.{shape_of}
use Rattle.split_file.specs.Reading.{entries_stand}
use Rattle.split_file.proofs.reading.check_entries.Given as goal

abbrev pub invariant-loop-entry : goal.invariant-loop-entry
invariant-loop-entry l = record {
  left : l.left + l.entry-index ≡ length l.code.entries.items;
  stand : (bytes : List ℕ) →
      entries_stand (shape_of l.code) (drop l.entry-index l.code.entries.items) l.behind bytes
      ≡ entries_stand (shape_of l.code) l.code.entries.items l.behind bytes;
}
