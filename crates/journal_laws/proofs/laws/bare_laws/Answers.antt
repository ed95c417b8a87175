use Rattle.std.proofs.Common.{ap}
use Rattle.journal_laws.proofs.BareTakings.{printed_bare, takes_bare}
use Rattle.journal_laws.proofs.BareTurns.{runs_bare}
use Rattle.journal_laws.proofs.BareSteps.{step_bare, steps_alike}
use Rattle.journal_laws.proofs.laws.bare_laws.Goals as goal

pub returns-clause-prints : goal.returns-clause-prints
returns-clause-prints c = printed_bare

pub returns-clause-taking : goal.returns-clause-taking
returns-clause-taking c = takes_bare

pub returns-clause-operation : goal.returns-clause-operation
returns-clause-operation c = runs_bare

pub returns-clause-step : goal.returns-clause-step
returns-clause-step c = step_bare

pub returns-clause-alike : goal.returns-clause-alike
returns-clause-alike c = steps_alike

pub returns-clause-fields : goal.returns-clause-fields
returns-clause-fields c one other same = (ap (λ host. host.rows) same, ap (λ host. host.variables) same)
