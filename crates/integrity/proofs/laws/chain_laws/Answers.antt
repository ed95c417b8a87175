use Rattle.integrity.proofs.TightStart.{starts_tight}
use Rattle.integrity.proofs.TightLaws.{kept}
use Rattle.integrity.proofs.laws.chain_laws.Goals as goal

pub returns-clause-start : goal.returns-clause-start
returns-clause-start c = starts_tight

pub returns-clause-kept : goal.returns-clause-kept
returns-clause-kept c =
    kept (record { opens = c.opening_laws.ensures.opens; labels = c.opening_laws.ensures.labels })
