use Rattle.jif_lex.proofs.Fronts.{symbol_front}
use Rattle.jif_lex.proofs.lexemes.first_lexeme.Goals as goal

pub returns-in-Some-first_symbol : goal.returns-in-Some-first_symbol
returns-in-Some-first_symbol c =
    symbol_front c.args.text.now c.in-Some-first_symbol.symbol c.in-Some-first_symbol.len
    c.in-Some-first_symbol.ensures.some c.requires
