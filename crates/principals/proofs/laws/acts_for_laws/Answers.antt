use Rattle.principals.proofs.Chains.{goes_on, to_itself, over_pair, smallest, of_outsider, for_outsider, of_declared}
use Rattle.principals.proofs.Chains.{for_declared}
use Rattle.principals.proofs.laws.acts_for_laws.Goals as goal

pub returns-clause-transitive : goal.returns-clause-transitive
returns-clause-transitive c principals p q r = goes_on principals.pairs p q r

pub returns-clause-reflexive : goal.returns-clause-reflexive
returns-clause-reflexive c principals p = to_itself principals.pairs p

pub returns-clause-declared : goal.returns-clause-declared
returns-clause-declared c principals p q = over_pair principals.pairs p q

pub returns-clause-smallest : goal.returns-clause-smallest
returns-clause-smallest c = smallest

pub returns-clause-of_outsider : goal.returns-clause-of_outsider
returns-clause-of_outsider c = of_outsider

pub returns-clause-for_outsider : goal.returns-clause-for_outsider
returns-clause-for_outsider c = for_outsider

pub returns-clause-of_declared : goal.returns-clause-of_declared
returns-clause-of_declared c = of_declared

pub returns-clause-for_declared : goal.returns-clause-for_declared
returns-clause-for_declared c = for_declared
