use Rattle.integrity.proofs.LooseEvents.{lost_is_loose}
use Rattle.integrity.proofs.LooseLaws.{recovers}
use Rattle.integrity.proofs.laws.loose_laws.Goals as goal

pub returns-clause-from_lost : goal.returns-clause-from_lost
returns-clause-from_lost c = lost_is_loose

pub returns-clause-recovers : goal.returns-clause-recovers
returns-clause-recovers c =
    recovers (record { opens = c.opening_laws.ensures.opens; labels = c.opening_laws.ensures.labels })
