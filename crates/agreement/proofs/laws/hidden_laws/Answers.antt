use Rattle.agreement.proofs.AnswersPass.{answer_passes}
use Rattle.agreement.proofs.HiddenEvents.{event_leads, run_leads, run_agrees}
use Rattle.agreement.proofs.HiddenTakes.{take_leads}
use Rattle.agreement.proofs.HiddenTurns.{turn_leads}
use Rattle.agreement.proofs.Quiet.{quiet_shows, calm_leads}
use Rattle.agreement.proofs.Starts.{start_leads, starts_agree}
use Rattle.agreement.proofs.laws.hidden_laws.Goals as goal

pub returns : goal.returns
returns c = record {
  start = start_leads;
  starts = starts_agree;
  kept = event_leads;
  along = run_leads;
  agrees = run_agrees;
  turn = turn_leads;
  take = take_leads;
  answers = answer_passes;
  quiet = quiet_shows;
  calm = calm_leads;
}
