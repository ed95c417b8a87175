use Rattle.split_rules.proofs.AllowedTyping.{allowed_typable}
use Rattle.split_rules.proofs.laws.trust_laws.Goals as goal

pub returns : goal.returns
returns c = record { typable = allowed_typable }
