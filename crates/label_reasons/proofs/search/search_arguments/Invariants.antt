use Rattle.std.proofs.Common.{map, drop, flat_map}
use Rattle.std.specs.Prelude.{Option}
use Rattle.jif_tree.specs.Trees.{expr_tree}
use Rattle.label_reasons.specs.declared.search_place.Found.{Found}
use Rattle.label_reasons.specs.Asks.{expr_asks}
use Rattle.label_reasons.specs.Search.{FindsAt}
use Rattle.label_reasons.proofs.search.search_arguments.Given as goal

-- what is found in what is left is found in the whole
abbrev pub invariant-loop-arg : goal.invariant-loop-arg
invariant-loop-arg l = (end : Option Found) →
    FindsAt l.place l.stand l.known (λ spot. flat_map (expr_asks spot l.here)
    (map expr_tree (drop l.arg-index l.args))) l.found end →
    FindsAt l.place l.stand l.known (λ spot. flat_map (expr_asks spot l.here) (map expr_tree l.args)) l.fn.found end
