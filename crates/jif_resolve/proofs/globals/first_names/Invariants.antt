use Rattle.std.proofs.Common.{map, take}
use Rattle.jif_resolve.specs.GlobalNames.{global_shape, HasFirst}
use Rattle.jif_resolve.proofs.globals.first_names.Given as goal

-- the first of the declarations so far
abbrev pub invariant-loop-name : goal.invariant-loop-name
invariant-loop-name l = HasFirst l.first.entries (map global_shape (take l.name-index l.declared))
