use Rattle.record_merge.proofs.Beginnings.{start_single}
use Rattle.record_merge.proofs.Singles.{step_single, one_event}
use Rattle.record_merge.proofs.laws.single_laws.Goals as goal

pub returns-clause-start : goal.returns-clause-start
returns-clause-start c = λ code rows store. start_single code rows store

pub returns-clause-step : goal.returns-clause-step
returns-clause-step c = λ code world after event single step. step_single code world after event single step

pub returns-clause-one : goal.returns-clause-one
returns-clause-one c = λ code world first second event other single step next.
    one_event code world first second event other single step next
