use Rattle.integrity.proofs.IntegrityExamples as example
use Rattle.integrity.proofs.laws.integrity_examples.Goals as goal

pub returns-clause-affects : goal.returns-clause-affects
returns-clause-affects c = example.affects

pub returns-clause-denied_variable : goal.returns-clause-denied_variable
returns-clause-denied_variable c = example.denied_variable

pub returns-clause-denied_statement : goal.returns-clause-denied_statement
returns-clause-denied_statement c = example.denied_statement

pub returns-clause-sending_denied : goal.returns-clause-sending_denied
returns-clause-sending_denied c = example.sending_denied

pub returns-clause-waits : goal.returns-clause-waits
returns-clause-waits c = example.waits c.opening_examples.ensures.behind_sent

pub returns-clause-waiting_denied : goal.returns-clause-waiting_denied
returns-clause-waiting_denied c = example.waiting_denied

pub returns-clause-sets : goal.returns-clause-sets
returns-clause-sets c = example.sets

pub returns-clause-stands_denied : goal.returns-clause-stands_denied
returns-clause-stands_denied c = example.stands_denied

pub returns-clause-as_before_denied : goal.returns-clause-as_before_denied
returns-clause-as_before_denied c = example.as_before_denied

pub returns-clause-refuses : goal.returns-clause-refuses
returns-clause-refuses c = example.refuses

pub returns-clause-outside_denied : goal.returns-clause-outside_denied
returns-clause-outside_denied c = example.outside_denied

pub returns-clause-forward_denied : goal.returns-clause-forward_denied
returns-clause-forward_denied c = example.forward_denied

pub returns-clause-main_denied : goal.returns-clause-main_denied
returns-clause-main_denied c = example.main_denied

pub returns-clause-enters : goal.returns-clause-enters
returns-clause-enters c = example.enters

pub returns-clause-halt_denied : goal.returns-clause-halt_denied
returns-clause-halt_denied c = example.halt_denied

pub returns-clause-stands_for_denied : goal.returns-clause-stands_for_denied
returns-clause-stands_for_denied c = example.stands_for_denied

pub returns-clause-riding_denied : goal.returns-clause-riding_denied
returns-clause-riding_denied c = example.riding_denied

pub returns-clause-riding_behind_denied : goal.returns-clause-riding_behind_denied
returns-clause-riding_behind_denied c = example.riding_behind_denied

pub returns-clause-riding_entry_denied : goal.returns-clause-riding_entry_denied
returns-clause-riding_entry_denied c = example.riding_entry_denied
