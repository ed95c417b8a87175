use Rattle.jif_lex.specs.declared.lexer.LexError.TheVariants as lex
use Rattle.jif_lex.specs.Lexing.{LexFails}
use Rattle.front_end.specs.Verdicts.{not_lexed}
use Rattle.front_end.proofs.Stages.{refusal_stops}
use Rattle.front_end.proofs.sources.lexed.Goals as goal

pub returns-in-Err-clause-lexed : goal.returns-in-Err-clause-lexed
returns-in-Err-clause-lexed c = λ p loaded.
    refusal_stops (LexFails p) lex.OutOfMemory not_lexed c.in-Err.why
    c.not_lexed.result c.stopped.result (c.in-Err.ensures.tokens p loaded) c.not_lexed.ensures.refused
    c.not_lexed.ensures.not_memory c.stopped.ensures
