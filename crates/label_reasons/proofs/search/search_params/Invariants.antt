use Rattle.std.proofs.Common.{map, drop}
use Rattle.std.specs.Prelude.{Option}
use Rattle.jif_tree.specs.Trees.{expr_tree}
use Rattle.label_reasons.specs.declared.search_place.Found.{Found}
use Rattle.label_reasons.specs.Asks.{argument_asks}
use Rattle.label_reasons.specs.Search.{FindsAt}
use Rattle.label_reasons.proofs.search.search_params.Given as goal

-- what is found in what is left is found in the whole
abbrev pub invariant-loop-number : goal.invariant-loop-number
invariant-loop-number l = (end : Option Found) →
    FindsAt l.place l.stand l.known (λ spot. argument_asks spot l.here l.method l.number
    (map expr_tree (drop l.number l.args)) (drop l.number l.params)) l.found end →
    FindsAt l.place l.stand l.known (λ spot. argument_asks spot l.here l.method 0 (map expr_tree l.args) l.params)
    l.fn.found end
