use Rattle.event_text.proofs.BadBits.{bad_bits}
use Rattle.event_text.proofs.OwnTokens.{script_own}
use Rattle.event_text.proofs.Outcomes.{some_script, some_start, script_line, start_line}
use Rattle.event_text.proofs.SaidAgain.{said_again}
use Rattle.event_text.proofs.SaidEvents.{events_said}
use Rattle.event_text.proofs.ScriptAgain.{script_again}
use Rattle.event_text.proofs.laws.script_laws.Goals as goal

pub returns : goal.returns
returns c = record {
  some_script = some_script;
  some_start = some_start;
  said_again = λ code bad event said. said_again code bad said.0 event said.1;
  events_said = events_said;
  script_again = script_again;
  bad_bits = bad_bits;
  own = script_own;
  script_line = script_line;
  start_line = start_line;
}
