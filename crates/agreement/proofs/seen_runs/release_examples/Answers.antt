use Rattle.std.proofs.Common.{[], ◌∷◌, inr, refl}
use Rattle.std.specs.Prelude.{pos}
use Rattle.agreement.proofs.ReleasedWorked as worked
use Rattle.agreement.proofs.seen_runs.release_examples.Goals as goal

pub returns : goal.returns
returns c = record {
  seen_turn = worked.seen_turn;
  seen_turn_less = worked.seen_turn_less;
  run = worked.run;
  secret_turn = worked.secret_turn;
  secret_turn_more = worked.secret_turn_more;
  bad_host = refl;
  idle_host = refl;
  alike = inr (pos 8 ∷ [], refl);
  alike_more = worked.alike_more;
}
