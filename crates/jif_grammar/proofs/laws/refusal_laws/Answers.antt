use Rattle.jif_grammar.proofs.Refusing.{too_deep_at, too_many_at, unexpected_at}
use Rattle.jif_grammar.proofs.laws.refusal_laws.Goals as goal

pub returns : goal.returns
returns c = record { too_deep_at = too_deep_at; too_many_at = too_many_at; unexpected_at = unexpected_at }
