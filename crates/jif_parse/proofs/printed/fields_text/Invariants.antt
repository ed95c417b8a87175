use Rattle.std.proofs.Common.{◌≡◌, ◌++◌, map, drop, string_bytes}
use Rattle.std.specs.List.{flat_map}
use Rattle.jif_tree.specs.Trees.{field_tree}
use Rattle.jif_parse.specs.PrintedProgram.{field_text}
use Rattle.jif_parse.proofs.printed.fields_text.Given as goal

-- the text so far, and then that of the fields that are left, is that of all
abbrev pub invariant-loop-field : goal.invariant-loop-field
invariant-loop-field l =
    flat_map (field_text l.principals) (map field_tree l.fields)
    ≡ string_bytes l.text ++ flat_map (field_text l.principals) (map field_tree (drop l.field-index l.fields))
