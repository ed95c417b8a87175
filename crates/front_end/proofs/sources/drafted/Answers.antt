use Rattle.jif_grammar.specs.DraftShapes.{draft_shape}
use Rattle.front_end.specs.Sources.{Lexed, Parsed, Drafted}
use Rattle.front_end.proofs.Stages.{handed_on, then_ends, then_stops}
use Rattle.front_end.proofs.sources.drafted.Goals as goal

pub returns-in_err-tokens-clause-drafted : goal.returns-in_err-tokens-clause-drafted
returns-in_err-tokens-clause-drafted c = λ p loaded.
    handed_on draft_shape (Drafted p) c.in_err-tokens.field-0.0 c.from_residual.result c.from_residual.ensures
    (then_stops (Lexed p) Parsed c.in_err-tokens.field-0.0 (c.in_err-tokens.ensures.lexed p loaded))

pub returns-clause-drafted : goal.returns-clause-drafted
returns-clause-drafted c = λ p loaded.
    then_ends (λ list. list.items) draft_shape (Lexed p) Parsed c.in_ok-tokens.tokens c.parsed.result
    (c.in_ok-tokens.ensures.lexed p loaded) (rw c.deref.ensures.value at c.parsed.ensures.parsed)
