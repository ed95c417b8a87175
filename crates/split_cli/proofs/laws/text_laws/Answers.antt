use Rattle.split_cli.proofs.WordsOfTexts.{WordLaws, text_releases, text_endorses}
use Rattle.split_cli.proofs.laws.text_laws.Goals as goal

words : (c : goal.After-word_laws) → WordLaws
words c = record {
  once = c.lex_laws.ensures;
  releases = c.word_laws.ensures.releases;
  endorses = c.word_laws.ensures.endorses;
}

pub returns-clause-releases : goal.returns-clause-releases
returns-clause-releases c = text_releases (words c)

pub returns-clause-endorses : goal.returns-clause-endorses
returns-clause-endorses c = text_endorses (words c)
