use Rattle.source_words.proofs.LackingPrograms.{releases_nothing, endorses_nothing, word_found}
use Rattle.source_words.proofs.laws.word_laws.Goals as goal

pub returns : goal.returns
returns c = record { releases = releases_nothing; endorses = endorses_nothing; found = word_found }
