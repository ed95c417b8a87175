use Rattle.std.proofs.Common.{map, take}
use Rattle.jif_tree.specs.Trees.{expr_tree}
use Rattle.need_labels.specs.Finding.{AddsExprs}
use Rattle.need_labels.proofs.expressions.add_exprs.Given as goal

-- the expressions so far
abbrev pub invariant-loop-expr : goal.invariant-loop-expr
invariant-loop-expr l =
    AddsExprs l.place l.fn.current l.fn.reads (map expr_tree (take l.expr-index l.exprs)) l.current l.reads
