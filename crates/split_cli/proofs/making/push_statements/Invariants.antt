use Rattle.std.proofs.Common.{◌≡◌, ◌++◌}
use Rattle.std.specs.String.{string_bytes}
use Rattle.made_laws.specs.MadePrograms.{made_statements}
use Rattle.front_end.specs.Text.{lines_text}
use Rattle.split_cli.proofs.making.push_statements.Given as goal

-- the statements so far were added
abbrev pub invariant-loop-number : goal.invariant-loop-number
invariant-loop-number l =
    string_bytes l.text ≡ string_bytes l.initial.text ++ lines_text (made_statements l.number)
