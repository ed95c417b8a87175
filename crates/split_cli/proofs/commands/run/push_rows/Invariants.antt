use Rattle.std.proofs.Common.{◌≡◌, ◌++◌}
use Rattle.std.specs.String.{string_bytes}
use Rattle.split_cli.proofs.RunReport.{rows_from}
use Rattle.split_cli.proofs.commands.run.push_rows.Given as goal

-- the lines so far and those of the fields that are left are all lines
abbrev pub invariant-loop-number : goal.invariant-loop-number
invariant-loop-number l =
    string_bytes l.text ++ rows_from l.fields l.rows l.number
    ≡ string_bytes l.initial.text ++ rows_from l.fields l.rows 0
