use Rattle.agreement.proofs.AnyTurns.{turn_kind, kinds_apart, any_agrees}
use Rattle.agreement.proofs.AskingsAgree.{asking_once, asking_carried, asks_agree}
use Rattle.agreement.proofs.SeenAskings.{reached_asks}
use Rattle.agreement.proofs.SeenHandings.{reached_hands, handing_once}
use Rattle.agreement.proofs.SeenAgree.{seen_once, carried_same, turn_agrees, hands_agree}
use Rattle.agreement.proofs.SeenLeads.{reached_leads}
use Rattle.agreement.proofs.laws.seen_laws.Goals as goal

pub returns : goal.returns
returns c = record {
  turn = reached_leads;
  once = seen_once;
  carried = carried_same;
  agrees = turn_agrees;
  hands = reached_hands;
  hands_once = handing_once;
  hands_agree = hands_agree;
  asks = reached_asks;
  asks_once = asking_once;
  asks_carried = asking_carried;
  asks_agree = asks_agree;
  turn_kinds = turn_kind;
  kinds_apart = kinds_apart;
  any_turn = any_agrees;
}
