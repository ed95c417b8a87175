use Rattle.std.proofs.Common.{map, take}
use Rattle.std.specs.List.{AllZip}
use Rattle.jif_tree.specs.Trees.{expr_tree}
use Rattle.jif_grammar.specs.DraftShapes.{expr_shape}
use Rattle.jif_resolve.specs.Contexts.{setting_in}
use Rattle.jif_resolve.specs.Resolved.{IsExprFor}
use Rattle.jif_resolve.proofs.plain_statements.arguments_of.Given as goal

-- the arguments so far
abbrev pub invariant-loop-draft : goal.invariant-loop-draft
invariant-loop-draft l =
    AllZip (IsExprFor (setting_in l.context) l.scope) (map expr_shape (take l.draft-index l.drafts))
    (map expr_tree l.exprs.items)
