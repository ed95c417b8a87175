use Rattle.node_engine.proofs.Askings.{one_asked}
use Rattle.node_engine.proofs.WorkedWords.{all_options, no_words, with_seals}
use Rattle.node_engine.proofs.options.option_laws.Goals as goal

pub returns-clause-one_asked : goal.returns-clause-one_asked
returns-clause-one_asked c = one_asked

pub returns-clause-no_words : goal.returns-clause-no_words
returns-clause-no_words c = no_words

pub returns-clause-all_options : goal.returns-clause-all_options
returns-clause-all_options c = all_options

pub returns-clause-with_seals : goal.returns-clause-with_seals
returns-clause-with_seals c = with_seals
