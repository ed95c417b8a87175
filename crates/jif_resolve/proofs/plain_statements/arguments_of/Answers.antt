use Rattle.jif_tree.specs.Trees.{expr_tree}
use Rattle.jif_grammar.specs.DraftShapes.{expr_shape}
use Rattle.jif_resolve.specs.Contexts.{setting_in}
use Rattle.jif_resolve.specs.Faults.{expr_faults}
use Rattle.jif_resolve.specs.Resolved.{IsExprFor}
use Rattle.jif_resolve.proofs.Cleanly.{clean_at, zip_map_more}
use Rattle.jif_resolve.proofs.plain_statements.arguments_of.Goals as goal

pub expr_of-requires : goal.expr_of-requires
expr_of-requires c =
    clean_at expr_shape (expr_faults (setting_in c.args.context.now) c.args.scope.now) c.args.drafts.now
    c.loop-draft.draft-index c.draft-item.result c.loop-draft-test.true c.draft-item.is c.requires

pub loop-draft-preserved : goal.loop-draft-preserved
loop-draft-preserved c =
    rw c.in_ok-push.ensures.items
    (zip_map_more expr_shape expr_tree (IsExprFor (setting_in c.args.context.now) c.args.scope.now) c.args.drafts.now
    c.loop-draft.exprs.items c.loop-draft.draft-index c.draft-item.result c.in_ok-expr.expr c.loop-draft-test.true
    c.draft-item.is c.loop-draft.invariant c.in_ok-expr.ensures)
