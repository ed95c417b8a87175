use Rattle.place_rules.proofs.OneAnswer.{one_allowed, one_refusal, never_both, some_host}
use Rattle.place_rules.proofs.SomeAnswer.{allowed_or_refused}
use Rattle.place_rules.proofs.laws.place_rule_laws.Goals as goal

pub returns : goal.returns
returns c = record {
  one_allowed = one_allowed;
  one_refusal = one_refusal;
  never_both = never_both;
  allowed_or_refused = allowed_or_refused;
  some_host = some_host;
}
