use Rattle.agreement.proofs.ReleasedRuns.{run_releases, run_releases_once}
use Rattle.agreement.proofs.RunsAgree.{event_agrees, agree_sent, runs_agree, told_alike}
use Rattle.agreement.proofs.SplitRuns.{split_releases_none, split_released, split_tells}
use Rattle.agreement.proofs.seen_runs.run_laws.Goals as goal

pub returns : goal.returns
returns c = record {
  event = event_agrees;
  sent = agree_sent;
  some_values = run_releases;
  one_values = run_releases_once;
  runs = runs_agree;
  tells = told_alike;
  none = split_releases_none;
  released = split_released;
  split = split_tells;
}
