use Rattle.jif_tree.specs.Trees.{expr_tree}
use Rattle.host_code.specs.declared.code_expr.TheConstants.{MOST_NODES}
use Rattle.split_rules.proofs.ReadRows.{value_behind}
use Rattle.split_rules.proofs.statements.add_both.Goals as goal

pub add_reads-requires-2 : goal.add_reads-requires-2
add_reads-requires-2 c =
    value_behind c.in_ok-middle.middle MOST_NODES (expr_tree c.args.index.now) (expr_tree c.args.value.now)
    c.in_ok-middle.ensures.next c.requires

pub add_released-requires-2 : goal.add_released-requires-2
add_released-requires-2 c =
    value_behind c.in_ok-behind.behind MOST_NODES (expr_tree c.args.index.now) (expr_tree c.args.value.now)
    c.in_ok-behind.ensures.next c.requires
