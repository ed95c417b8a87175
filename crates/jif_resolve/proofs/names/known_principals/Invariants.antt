use Rattle.std.proofs.Common.{◌<◌, map, take, length, All}
use Rattle.jif_grammar.specs.DraftShapes.{name_shape}
use Rattle.label_lattice.specs.Written.{AreKnown}
use Rattle.jif_resolve.specs.Labels.{texts}
use Rattle.jif_resolve.proofs.names.known_principals.Given as goal

-- the names so far
abbrev pub invariant-loop-name : goal.invariant-loop-name
invariant-loop-name l = record {
  known : AreKnown l.principals (texts (map name_shape (take l.name-index l.names))) l.known.items;
  declared : All (λ named. named.0 < length l.principals.names) l.known.items;
}
