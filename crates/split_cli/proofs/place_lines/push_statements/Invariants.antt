use Rattle.std.proofs.Common.{◌≡◌, ◌++◌, take}
use Rattle.std.specs.String.{string_bytes}
use Rattle.front_end.specs.PlacedShapes.{placed_shape}
use Rattle.split_cli.specs.PlaceLines.{statement_places}
use Rattle.front_end.specs.Text.{lines_text}
use Rattle.split_cli.proofs.place_lines.push_statements.Given as goal

-- the lines of the statements so far were added
abbrev pub invariant-loop-number : goal.invariant-loop-number
invariant-loop-number l =
    string_bytes l.text ≡ string_bytes l.initial.text ++ lines_text
    (statement_places (placed_shape l.placed) 0 (take l.number l.lines))
