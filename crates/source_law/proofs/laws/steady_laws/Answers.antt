use Rattle.source_law.proofs.AlteredSteps.{keeps_up}
use Rattle.source_law.proofs.Moments.{moments_follow}
use Rattle.source_law.proofs.RelatedStart.{starts}
use Rattle.source_law.proofs.SteadyPrograms.{program_steady}
use Rattle.source_law.proofs.laws.steady_laws.Goals as goal

pub returns : goal.returns
returns c = record {
  steady = program_steady;
  starts = starts;
  keeps_up = keeps_up;
  plainly = λ principals program labelled needs bad store length_of moments same checked pure.
      moments_follow program _ store length_of moments
      (program_steady principals program labelled needs bad same checked pure);
}
