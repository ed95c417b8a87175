use Rattle.std.specs.Option.{option_map}
use Rattle.label_lattice.specs.Over.{IsLabelOver}
use Rattle.label_lattice.specs.Written.{kinds}
use Rattle.label_lattice.proofs.PartsLoop.{PartsSoFar}
use Rattle.label_lattice.proofs.Joins.{how_many_left}
use Rattle.label_lattice.proofs.tokens.label_of_parts.Given as goal

abbrev pub invariant-loop-left : goal.invariant-loop-left
invariant-loop-left l = record {
  so_far : PartsSoFar l.principals (kinds l.inside) l.label (option_map (λ rest. kinds rest.now) l.left);
  over : IsLabelOver l.principals l.label;
}

abbrev pub decreases-loop-left : goal.decreases-loop-left
decreases-loop-left l = how_many_left (option_map (λ rest. kinds rest.now) l.left)
