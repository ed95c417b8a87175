use Rattle.jif_tree.proofs.Rows.{if_tree, while_tree}
use Rattle.jif_tree.proofs.laws.tree_laws.Goals as goal

pub returns : goal.returns
returns c = record { branches = if_tree; loops = while_tree }
