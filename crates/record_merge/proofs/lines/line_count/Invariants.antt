use Rattle.std.proofs.Common.{◌≡◌, ◌≤◌, ◌+◌, length}
use Rattle.std.specs.Str.Lines.{lines}
use Rattle.record_merge.proofs.lines.line_count.Given as goal

-- the lines so far, and those that are left, are all
abbrev pub invariant-loop-rest : goal.invariant-loop-rest
invariant-loop-rest l = record {
  whole : l.count + length (lines l.left) ≡ length (lines l.bytes);
  few : l.count + length l.left ≤ length l.bytes;
}

abbrev pub decreases-loop-rest : goal.decreases-loop-rest
decreases-loop-rest l = length l.left
