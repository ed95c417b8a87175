use Rattle.split_rules.proofs.OpenExamples as example
use Rattle.split_rules.proofs.laws.opening_examples.Goals as goal

pub returns : goal.returns
returns c = record {
  before_pushed = example.before_pushed;
  pushed_denied = example.pushed_denied;
  pushed_own = example.pushed_own;
  pushed = example.pushed;
  asked_denied = example.asked_denied;
  asked = example.asked;
  behind_sent = example.behind_sent;
  sent_denied = example.sent_denied;
  sent = example.sent;
  riding_denied = example.riding_denied;
  riding_called_denied = example.riding_called_denied;
  branch_next = example.branch_next;
  branch_denied = example.branch_denied;
  loop_target = example.loop_target;
  loop_denied = example.loop_denied;
  of_method = example.of_method;
  calling_denied = example.calling_denied;
  of_none = example.of_none;
  pushed_without = example.pushed_without;
  pushed_within = example.pushed_within;
  asked_without = example.asked_without;
  gone_without = example.gone_without;
  called_without = example.called_without;
  gone_riding = example.gone_riding;
  called_riding = example.called_riding;
  due_without = example.due_without;
}
