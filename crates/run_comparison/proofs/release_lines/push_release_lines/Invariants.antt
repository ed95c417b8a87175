use Rattle.std.proofs.Common.{◌≡◌, ◌≤◌, ◌++◌, length}
use Rattle.std.specs.Prelude.{max}
use Rattle.std.specs.String.{string_bytes}
use Rattle.run_comparison.specs.ReleaseLines.{first_lines}
use Rattle.run_comparison.proofs.release_lines.push_release_lines.Given as goal

-- the lines so far were added
abbrev pub invariant-loop-number : goal.invariant-loop-number
invariant-loop-number l =
    (string_bytes l.text ≡ string_bytes l.initial.text ++ first_lines l.one l.other l.number)
    × (l.number ≤ max (length l.one) (length l.other))
