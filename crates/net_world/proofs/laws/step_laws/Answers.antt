use Rattle.net_world.proofs.StepLaws.{one_step, not_refused, others_stay, same_misbehave, told_more}
use Rattle.net_world.proofs.SomeStep.{happens_or_refused}
use Rattle.net_world.proofs.laws.step_laws.Goals as goal

pub returns-clause-one : goal.returns-clause-one
returns-clause-one c = λ code world first second event a b. one_step code world first second event a b

pub returns-clause-not_refused : goal.returns-clause-not_refused
returns-clause-not_refused c = λ code world after event step. not_refused code world after event step

pub returns-clause-happens_or_refused : goal.returns-clause-happens_or_refused
returns-clause-happens_or_refused c = λ code world event. happens_or_refused code world event

pub returns-clause-others : goal.returns-clause-others
returns-clause-others c = λ code world after event host step other. others_stay code world after event host step other

pub returns-clause-misbehaving : goal.returns-clause-misbehaving
returns-clause-misbehaving c = λ code world after event host step. same_misbehave code world after event host step

pub returns-clause-told : goal.returns-clause-told
returns-clause-told c = λ code world after event step. told_more code world after event step
