use Rattle.net_world.proofs.StepLaws.{one_run, joined, split}
use Rattle.net_world.proofs.laws.run_laws.Goals as goal

pub returns-clause-one : goal.returns-clause-one
returns-clause-one c = λ code world first second events a b. one_run code world first second events a b

pub returns-clause-joined : goal.returns-clause-joined
returns-clause-joined c = λ code world middle after events later first second.
    joined code world middle after events later first second

pub returns-clause-split : goal.returns-clause-split
returns-clause-split c = λ code world after events later run. split code world after events later run
