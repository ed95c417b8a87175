use Rattle.jif_resolve.proofs.ResultsGiven.{given_back}
use Rattle.jif_resolve.proofs.ResultsUnread.{unread}
use Rattle.jif_resolve.proofs.laws.result_laws.Goals as goal

pub returns : goal.returns
returns c = record { given = given_back; unread = unread }
