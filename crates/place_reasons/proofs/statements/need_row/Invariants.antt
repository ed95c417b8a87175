use Rattle.std.proofs.Common.{◌≡◌}
use Rattle.std.specs.List.{range_with_len}
use Rattle.jif_tree.specs.Trees.{done, tree_before}
use Rattle.place_reasons.specs.Firsts.{first_some}
use Rattle.place_reasons.specs.Reasons.{need_of}
use Rattle.place_reasons.specs.Search.{site_is}
use Rattle.place_reasons.proofs.statements.need_row.Given as goal

-- the first of the principals so far
abbrev pub invariant-loop-principal : goal.invariant-loop-principal
invariant-loop-principal l =
    l.found ≡ first_some (need_of (site_is l.site) (tree_before l.statement done)) (range_with_len 0 l.principal)
