use Rattle.std.proofs.Common.{◌≡◌, ◌++◌, map, take}
use Rattle.jif_grammar.specs.DraftShapes.{method_shape}
use Rattle.jif_resolve.specs.GlobalNames.{global_shape}
use Rattle.jif_resolve.specs.Meanings.{methods_from}
use Rattle.jif_resolve.proofs.globals.push_methods.Given as goal

-- the names so far
abbrev pub invariant-loop-number : goal.invariant-loop-number
invariant-loop-number l =
    map global_shape l.declared.items
    ≡ map global_shape l.fn.declared.items ++ methods_from 0 (map method_shape (take l.number l.methods))
