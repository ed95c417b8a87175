use Rattle.integrity.proofs.ChainExamples as example
use Rattle.integrity.proofs.LooseExamples.{loose, gives_back, ends, sent_below}
use Rattle.integrity.proofs.laws.chain_examples.Goals as goal

pub returns-clause-not_lost : goal.returns-clause-not_lost
returns-clause-not_lost c = example.not_lost c.token_examples.ensures.held_at_start

pub returns-clause-not_outside : goal.returns-clause-not_outside
returns-clause-not_outside c = example.not_outside

pub returns-clause-sent_falls : goal.returns-clause-sent_falls
returns-clause-sent_falls c = example.sent_falls c.token_examples.ensures.sent

pub returns-clause-own_turn : goal.returns-clause-own_turn
returns-clause-own_turn c = example.own_turn

pub returns-clause-other_turn : goal.returns-clause-other_turn
returns-clause-other_turn c = example.other_turn

pub returns-clause-unlinked : goal.returns-clause-unlinked
returns-clause-unlinked c = example.unlinked

pub returns-clause-halted_denied : goal.returns-clause-halted_denied
returns-clause-halted_denied c = example.halted_denied

pub returns-clause-loose : goal.returns-clause-loose
returns-clause-loose c = loose

pub returns-clause-gives_back : goal.returns-clause-gives_back
returns-clause-gives_back c = gives_back

pub returns-clause-ends : goal.returns-clause-ends
returns-clause-ends c = ends

pub returns-clause-sent_below : goal.returns-clause-sent_below
returns-clause-sent_below c = sent_below c.token_examples.ensures.sent
