use Rattle.seen_world.proofs.Answered.{answer_carries, made_carries, answer_shows}
use Rattle.seen_world.proofs.Granted.{turn_granted}
use Rattle.seen_world.proofs.LabelsSent.{turn_labelled, answer_labelled}
use Rattle.seen_world.proofs.PointsAtStart.{starts_keep}
use Rattle.seen_world.proofs.PointsKept.{points_kept, request_passes, take_silent, secret_events}
use Rattle.seen_world.proofs.SecretSets.{flight_sets, flight_enters, rider_hidden}
use Rattle.seen_world.proofs.SecretTurns.{secret_told, secret_silent}
use Rattle.seen_world.proofs.SentWell.{turn_carries}
use Rattle.seen_world.proofs.TakesKept.{take_keeps, taken_world}
use Rattle.seen_world.proofs.TokensTold.{turn_shows}
use Rattle.seen_world.proofs.TurnsKept.{turn_keeps, turned_world}
use Rattle.seen_world.proofs.laws.point_laws.Goals as goal

pub returns : goal.returns
returns c = record {
  kept = points_kept;
  start = starts_keep;
  turned = turned_world;
  kept_by_turn = turn_keeps;
  carried = turn_carries;
  taken = taken_world;
  kept_by_take = take_keeps;
  answered = answer_carries;
  made = made_carries;
  labelled = turn_labelled;
  answer_labelled = answer_labelled;
  granted = turn_granted;
  passes_request = request_passes;
  sets = flight_sets;
  rides = rider_hidden;
  enters = flight_enters;
  answered_openly = answer_shows;
  told_openly = turn_shows;
  silent = secret_silent;
  taken_silently = take_silent;
  secretly = secret_events;
  told = secret_told;
}
