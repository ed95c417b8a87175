use Rattle.std.proofs.Common.{◌≡◌, map, take}
use Rattle.jif_grammar.specs.DraftShapes.{name_shape}
use Rattle.jif_resolve.specs.First.{with_faults}
use Rattle.jif_resolve.specs.Faults.{principals_faults}
use Rattle.jif_resolve.proofs.labels.with_principals.Given as goal

-- the names so far
abbrev pub invariant-loop-name : goal.invariant-loop-name
invariant-loop-name l =
    l.sooner_one ≡ with_faults l.fn.first (principals_faults l.principals (map name_shape (take l.name-index l.names)))
