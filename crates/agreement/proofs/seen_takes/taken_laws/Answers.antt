use Rattle.agreement.proofs.SeenActs.{reached_acts, act_once, made_same, acts_agree}
use Rattle.agreement.proofs.TakesAgree.{take_once, taken_same, takes_agree}
use Rattle.agreement.proofs.TakesLead.{reached_takes}
use Rattle.agreement.proofs.seen_takes.taken_laws.Goals as goal

pub returns : goal.returns
returns c = record {
  takes = reached_takes;
  once = take_once;
  carried = taken_same;
  agrees = takes_agree;
  acts = reached_acts;
  acts_once = act_once;
  acts_carried = made_same;
  acts_agree = acts_agree;
}
