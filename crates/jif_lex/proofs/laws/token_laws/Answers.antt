use Rattle.jif_lex.proofs.Sizes.{are_tokens}
use Rattle.jif_lex.proofs.laws.token_laws.Goals as goal

pub returns : goal.returns
returns c = are_tokens
