use Rattle.std.proofs.Common.{refl}
use Rattle.statement_texts.proofs.laws.text_examples.Goals as goal

pub returns-clause-worked_head : goal.returns-clause-worked_head
returns-clause-worked_head c = refl

pub returns-clause-worked_release : goal.returns-clause-worked_release
returns-clause-worked_release c = refl

pub returns-clause-worked_else : goal.returns-clause-worked_else
returns-clause-worked_else c = refl

pub returns-clause-worked_texts : goal.returns-clause-worked_texts
returns-clause-worked_texts c = refl

pub returns-clause-worked_blocks : goal.returns-clause-worked_blocks
returns-clause-worked_blocks c = refl

pub returns-clause-worked_loops : goal.returns-clause-worked_loops
returns-clause-worked_loops c = refl

pub returns-clause-worked_otherwise : goal.returns-clause-worked_otherwise
returns-clause-worked_otherwise c = refl
