use Rattle.net_world.proofs.Decisions.{readable, secret, quiet}
use Rattle.net_world.proofs.laws.secret_laws.Goals as goal

pub returns-clause-readable : goal.returns-clause-readable
returns-clause-readable c = readable

pub returns-clause-secret : goal.returns-clause-secret
returns-clause-secret c = secret

pub returns-clause-quiet : goal.returns-clause-quiet
returns-clause-quiet c = λ code world fits. quiet code world fits
