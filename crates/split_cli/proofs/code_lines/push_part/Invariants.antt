use Rattle.std.proofs.Common.{◌≡◌, ◌++◌, take}
use Rattle.std.specs.String.{string_bytes}
use Rattle.split_cli.specs.CodeLines.{instruction_lines}
use Rattle.front_end.specs.Text.{lines_text}
use Rattle.split_cli.proofs.code_lines.push_part.Given as goal

-- the lines of the instructions so far were added
abbrev pub invariant-loop-number : goal.invariant-loop-number
invariant-loop-number l =
    string_bytes l.text ≡ string_bytes l.initial.text ++ lines_text
    (instruction_lines l.code l.host 0 (take l.number l.part))
