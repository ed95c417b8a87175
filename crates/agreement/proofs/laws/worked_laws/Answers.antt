use Rattle.std.proofs.Common.{refl}
use Rattle.agreement.proofs.AskingExamples as examples
use Rattle.agreement.proofs.WorkedViews as worked
use Rattle.agreement.proofs.laws.worked_laws.Goals as goal

pub returns : goal.returns
returns c = record {
  behind = refl;
  at_guard = refl;
  inside = refl;
  pops = worked.pops;
  pops_more = worked.pops_more;
  pops_behind = worked.pops_behind;
  other = worked.other_stays;
  masked_value = refl;
  masked_riders = refl;
  sets = worked.sets;
  sets_more = worked.sets_more;
  branches = worked.branches;
  branches_more = worked.branches_more;
  pushes_more = worked.pushes_more;
  goes = λ variables. refl;
  stays_here = λ variables. refl;
  goes_with = refl;
  calls_with = refl;
  unseen_rider = λ view frame. refl;
  seen_rider = λ view frame. refl;
  told = λ flight. refl;
  flies = λ flight. refl;
  flies_untold = λ flight. refl;
  own_call = refl;
  other_call = worked.other_call;
  asks_other = examples.asks_other;
  asks_own = examples.asks_own;
  own_result = examples.own_result;
  asks_push = refl;
  sends_result = refl;
  asks_once = examples.asks_once;
  asks_for_more = examples.asks_for_more;
  asks_on = examples.asks_on;
  unseen_sent = λ state thread. refl;
  unseen_value = λ state thread. refl;
  seen_guard = λ state thread is. rw is refl;
  unseen_guard = λ state thread is. rw is refl;
}
