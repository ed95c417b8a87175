use Rattle.jif_resolve.proofs.FirstByTest.{first_by_test, none_by_test}
use Rattle.jif_resolve.proofs.laws.first_laws.Goals as goal

pub returns : goal.returns
returns c = record { first = first_by_test; none = none_by_test }
