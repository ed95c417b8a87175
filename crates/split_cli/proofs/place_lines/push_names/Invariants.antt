use Rattle.std.proofs.Common.{◌≡◌, ◌++◌, take}
use Rattle.std.specs.String.{string_bytes}
use Rattle.split_cli.specs.PlaceLines.{names_in}
use Rattle.split_cli.proofs.place_lines.push_names.Given as goal

-- the names of the hosts so far were added
abbrev pub invariant-loop-number : goal.invariant-loop-number
invariant-loop-number l =
    string_bytes l.text ≡ string_bytes l.initial.text ++ names_in l.word 0 (take l.number l.hosts)
