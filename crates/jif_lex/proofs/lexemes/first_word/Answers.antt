use Rattle.jif_lex.proofs.Fronts.{word_like, word_front}
use Rattle.jif_lex.proofs.lexemes.first_word.Goals as goal

pub word_kind-requires : goal.word_kind-requires
word_kind-requires c = word_like c.args.text.now c.word_len-len.result c.word_len-len.ensures.len c.requires.begins

pub returns : goal.returns
returns c =
    word_front c.args.text.now c.word_len-len.result c.in_ok-word_kind.field-0 c.word_len-len.ensures.len
    c.word_len-len.ensures.within c.requires.begins c.requires.plain c.in_ok-word_kind.ensures
