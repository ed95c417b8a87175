use Rattle.std.proofs.Common.{refl}
use Rattle.agreement.proofs.TakenWorked as worked
use Rattle.agreement.proofs.seen_takes.taken_examples.Goals as goal

pub returns : goal.returns
returns c = record {
  wakes = worked.wakes;
  wakes_more = worked.wakes_more;
  taken_out = refl;
  other_answer = worked.other_answer;
  gives_back = worked.gives_back;
  gives_other = worked.gives_other;
  sets = worked.sets;
  sets_more = worked.sets_more;
  answered = refl;
  rides = worked.rides;
  rides_more = worked.rides_more;
  rides_first = worked.rides_first;
  unseen_element = λ state index. refl;
}
