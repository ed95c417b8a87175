use Rattle.typed_steps.proofs.HolderTurns.{turned}
use Rattle.typed_steps.proofs.laws.turn_laws.Goals as goal

pub returns : goal.returns
returns c = record {
  turned = λ split c view world host old thread outcome acts turns.
      turned split c view world host old thread acts outcome turns;
}
