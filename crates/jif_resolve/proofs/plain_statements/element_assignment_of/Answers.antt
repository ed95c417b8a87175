use Rattle.jif_grammar.specs.DraftShapes.{name_shape, expr_shape}
use Rattle.jif_resolve.specs.Contexts.{setting_in}
use Rattle.jif_resolve.proofs.Cleanly.{clean_element_assignment}
use Rattle.jif_resolve.proofs.plain_statements.element_assignment_of.Goals as goal

pub expr_of-requires : goal.expr_of-requires
expr_of-requires c =
    (clean_element_assignment (setting_in c.args.context.now) c.args.scope.now (name_shape c.args.array.now)
    (expr_shape c.args.index.now) (expr_shape c.args.value.now) c.requires.clean).0

pub expr_of-requires-2 : goal.expr_of-requires-2
expr_of-requires-2 c =
    (clean_element_assignment (setting_in c.args.context.now) c.args.scope.now (name_shape c.args.array.now)
    (expr_shape c.args.index.now) (expr_shape c.args.value.now) c.requires.clean).1
