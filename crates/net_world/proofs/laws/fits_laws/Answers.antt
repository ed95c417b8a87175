use Rattle.net_world.proofs.OwnTokens.{own_at_start}
use Rattle.net_world.proofs.Shapes.{shape_at_start, shape_step, shape_run, shape_of_world, own_kept}
use Rattle.net_world.proofs.StepLaws.{same_misbehave}
use Rattle.net_world.proofs.laws.fits_laws.Goals as goal

pub returns-clause-start : goal.returns-clause-start
returns-clause-start c = λ code rows bad store sound same. shape_at_start code rows bad store sound same

pub returns-clause-step : goal.returns-clause-step
returns-clause-step c = λ code world after event sound fits own step. shape_step code world after event sound fits own
    step

pub returns-clause-world : goal.returns-clause-world
returns-clause-world c = λ code world fits. shape_of_world code world fits

pub returns-clause-run : goal.returns-clause-run
returns-clause-run c = λ code world after events sound fits own run. shape_run code world after events sound fits own
    run

pub returns-clause-own_at_start : goal.returns-clause-own_at_start
returns-clause-own_at_start c = λ code rows bad store event are own. own_at_start code store bad rows are event own

pub returns-clause-own : goal.returns-clause-own
returns-clause-own c = λ code world after made event step own.
    own_kept world after event (λ host. same_misbehave code world after made host step) own
