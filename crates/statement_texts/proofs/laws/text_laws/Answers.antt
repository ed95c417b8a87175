use Rattle.statement_texts.proofs.ByTree.{as_many, by_tree}
use Rattle.statement_texts.proofs.laws.text_laws.Goals as goal

pub returns-clause-by_tree : goal.returns-clause-by_tree
returns-clause-by_tree c = by_tree

pub returns-clause-as_many : goal.returns-clause-as_many
returns-clause-as_many c = as_many
