use Rattle.agreement.proofs.Exits.{exit_open, exit_guard}
use Rattle.agreement.proofs.Starts.{some_view}
use Rattle.agreement.proofs.ViewLaws.{completed_once, deep_owes, flight_added, flight_taken, unseen_thread}
use Rattle.agreement.proofs.ViewLaws.{still_shows, entry_hidden}
use Rattle.agreement.proofs.laws.view_laws.Goals as goal

pub returns : goal.returns
returns c = record {
  once = completed_once;
  deep = deep_owes;
  shown = some_view;
  in_open = exit_open;
  guard = exit_guard;
  added = flight_added;
  taken = flight_taken;
  thread = unseen_thread;
  stays = still_shows;
  chain = entry_hidden;
}
