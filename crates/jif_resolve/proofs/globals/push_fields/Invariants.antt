use Rattle.std.proofs.Common.{◌≡◌, ◌++◌, map, take}
use Rattle.jif_grammar.specs.DraftShapes.{field_shape}
use Rattle.jif_resolve.specs.GlobalNames.{global_shape}
use Rattle.jif_resolve.specs.Meanings.{fields_from}
use Rattle.jif_resolve.proofs.globals.push_fields.Given as goal

-- the names so far
abbrev pub invariant-loop-number : goal.invariant-loop-number
invariant-loop-number l =
    map global_shape l.declared.items
    ≡ map global_shape l.fn.declared.items ++ fields_from 0 (map field_shape (take l.number l.fields))
