use Rattle.integrity.proofs.OutsideLaws.{kept, along}
use Rattle.integrity.proofs.laws.outside_laws.Goals as goal

pub returns-clause-kept : goal.returns-clause-kept
returns-clause-kept c =
    kept (record { opens = c.opening_laws.ensures.opens; labels = c.opening_laws.ensures.labels })

pub returns-clause-along : goal.returns-clause-along
returns-clause-along c =
    along (record { opens = c.opening_laws.ensures.opens; labels = c.opening_laws.ensures.labels })
