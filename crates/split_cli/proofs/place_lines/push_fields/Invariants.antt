use Rattle.std.proofs.Common.{◌≡◌, ◌++◌, take, map}
use Rattle.std.specs.String.{string_bytes}
use Rattle.jif_tree.specs.Trees.{field_tree}
use Rattle.front_end.specs.PlacedShapes.{placed_shape}
use Rattle.split_cli.specs.PlaceLines.{field_places}
use Rattle.front_end.specs.Text.{lines_text}
use Rattle.split_cli.proofs.place_lines.push_fields.Given as goal

-- the lines of the fields so far were added
abbrev pub invariant-loop-number : goal.invariant-loop-number
invariant-loop-number l =
    string_bytes l.text ≡ string_bytes l.initial.text ++ lines_text
    (field_places (placed_shape l.placed) 0 (map field_tree (take l.number l.fields)))
