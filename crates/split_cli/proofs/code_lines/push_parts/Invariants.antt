use Rattle.std.proofs.Common.{◌≡◌, ◌++◌}
use Rattle.std.specs.List.{flat_map, range_with_len}
use Rattle.std.specs.String.{string_bytes}
use Rattle.split_cli.specs.CodeLines.{part_lines}
use Rattle.front_end.specs.Text.{lines_text}
use Rattle.split_cli.proofs.code_lines.push_parts.Given as goal

-- the lines of the hosts so far were added
abbrev pub invariant-loop-number : goal.invariant-loop-number
invariant-loop-number l =
    string_bytes l.text ≡ string_bytes l.initial.text ++ lines_text
    (flat_map (part_lines l.code) (range_with_len 0 l.number))
