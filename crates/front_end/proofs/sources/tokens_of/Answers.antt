use Rattle.front_end.proofs.Results.{are_tokens}
use Rattle.front_end.proofs.sources.tokens_of.Goals as goal

pub returns-in-Bytes-clause-sound : goal.returns-in-Bytes-clause-sound
returns-in-Bytes-clause-sound c = are_tokens c.lex.result _ _ c.token_laws.ensures c.lex.ensures
