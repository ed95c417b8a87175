use Rattle.std.proofs.Common.{None, inl, inr, subst}
use Rattle.front_end.specs.Loading.{StopsWith}
use Rattle.front_end.specs.PlacedShapes.{placed_shape}
use Rattle.front_end.specs.PlacedSources.{PlacedSources}
use Rattle.front_end.specs.Stages.{stopped}
use Rattle.front_end.specs.Verdicts.{VerdictShape, verdict_shape}
use Rattle.front_end.proofs.Stages.{ends_weaker}
use Rattle.jifexplain.specs.Due.{DueForBytes}
use Rattle.jifexplain.specs.Explained.{ExplainsVerdict}
use Rattle.jifexplain.specs.Places.{PlacesTold}
use Rattle.jifexplain.specs.Questions.{asked_shape}
use Rattle.jifexplain.proofs.due.verdict_for_loaded.Goals as goal

pub returns-in-Ok : goal.returns-in-Ok
returns-in-Ok c = λ p h loaded_p loaded_h.
    let names = c.args.names.now in
    ends_weaker (PlacesTold names.program.now p h (asked_shape names.asked) None)
    (DueForBytes names.program.now names.hosts.now (asked_shape names.asked) p h) c.places_told.result
    (λ verdict is. inl (placed_shape c.in-Ok.field-0, c.in-Ok.ensures p h loaded_p loaded_h, is))
    (c.places_told.ensures p h loaded_p loaded_h)

pub returns-in-Err-Due : goal.returns-in-Err-Due
returns-in-Err-Due c = λ p h loaded_p loaded_h.
    let names = c.args.names.now in
    ends_weaker (ExplainsVerdict names.program.now names.hosts.now p h (asked_shape names.asked)
    (verdict_shape c.in-Err-Due.refused)) (DueForBytes names.program.now names.hosts.now (asked_shape names.asked) p h)
    c.explained_verdict.result
    (λ verdict is. inr (
      verdict_shape c.in-Err-Due.refused,
      subst (StopsWith (λ (other : VerdictShape). PlacedSources p h (stopped other))) c.in-Err-Due.field-0-is
          (c.in-Err-Due.ensures p h loaded_p loaded_h),
      is,
    ))
    (c.explained_verdict.ensures p h loaded_p loaded_h)
