use Rattle.jif_lex.proofs.Texts.{name_from_word}
use Rattle.jif_lex.proofs.words.word_kind.Goals as goal

pub name_of-requires : goal.name_of-requires
name_of-requires c = name_from_word c.args.text.now c.requires c.in_default.ensures.none
