use Rattle.host_reasons.proofs.OneTold.{key_is_told, some_told, told_once}
use Rattle.host_reasons.proofs.laws.host_told_laws.Goals as goal

pub returns-clause-one_told : goal.returns-clause-one_told
returns-clause-one_told c = told_once

pub returns-clause-some_told : goal.returns-clause-some_told
returns-clause-some_told c = some_told

pub returns-clause-key_told : goal.returns-clause-key_told
returns-clause-key_told c = key_is_told
