use Rattle.label_check.proofs.Causes.{one_refusal, never_both}
use Rattle.label_check.proofs.Failures.{one_failure, none_fails}
use Rattle.label_check.proofs.SomeAnswer.{accepted_or_refused}
use Rattle.label_check.proofs.laws.failure_laws.Goals as goal

pub returns : goal.returns
returns c = record {
  one_failure = one_failure;
  none_fails = none_fails;
  one_refusal = one_refusal;
  never_both = never_both;
  accepted_or_refused = accepted_or_refused;
}
