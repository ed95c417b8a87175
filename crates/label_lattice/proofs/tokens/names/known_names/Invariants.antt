use Rattle.std.specs.Option.{option_map}
use Rattle.label_lattice.specs.Written.{kinds}
use Rattle.label_lattice.proofs.NamesLoop.{NamesSoFar}
use Rattle.label_lattice.proofs.Joins.{how_many_left}
use Rattle.label_lattice.proofs.tokens.names.known_names.Given as goal

abbrev pub invariant-loop-left : goal.invariant-loop-left
invariant-loop-left l = NamesSoFar l.principals (kinds l.tokens) l.known.items
    (option_map (λ rest. kinds rest.now) l.left)

abbrev pub decreases-loop-left : goal.decreases-loop-left
decreases-loop-left l = how_many_left (option_map (λ rest. kinds rest.now) l.left)
