use Rattle.host_reasons.proofs.BadKeys.{one_bad_key, same_key, some_bad_key}
use Rattle.host_reasons.proofs.laws.host_reason_laws.Goals as goal

pub returns-clause-one_bad_key : goal.returns-clause-one_bad_key
returns-clause-one_bad_key c = one_bad_key

pub returns-clause-same_key : goal.returns-clause-same_key
returns-clause-same_key c = same_key

pub returns-clause-some_bad_key : goal.returns-clause-some_bad_key
returns-clause-some_bad_key c = some_bad_key
