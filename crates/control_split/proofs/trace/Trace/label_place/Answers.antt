use Rattle.std.proofs.Common.{◌∙◌, sym}
use Rattle.control_split.proofs.Alike.{last_place}
use Rattle.control_split.proofs.trace.Trace.label_place.Goals as goal
use Rattle.control_split.proofs.trace.Trace.label_place.Goals.{then-not-is_at+in_ok-self-inside, else-not-is_at}

pub returns-clause-place : goal.returns-clause-place
returns-clause-place c = elim c.if-not-is_at.branch [
  | then-not-is_at+in_ok-self-inside w ↦ rw w.self-inside-is w.in_ok-self-inside.ensures.place
  | else-not-is_at w ↦ rw w.self-inside-is
      (last_place c.self.inside.labels.keys c.self.inside.last c.args.label.now c.self.invariant.0
      (rw c.as_slice.ensures.keys at (sym c.is_at.ensures) ∙ w.if-not-is_at.false))
]
