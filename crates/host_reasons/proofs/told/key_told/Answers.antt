use Rattle.std.proofs.Common.{inl}
use Rattle.std.proofs.lemmas.Result.{IfOk-weaker}
use Rattle.host_reasons.specs.BadKeys.{bad_key_shape}
use Rattle.host_reasons.proofs.OneTold.{some_matches}
use Rattle.host_reasons.proofs.told.key_told.Goals as goal

pub returns-in-Some : goal.returns-in-Some
returns-in-Some c =
    IfOk-weaker c.told_of_key.result _ _
    (λ what is. inl (
      bad_key_shape c.in-Some.bad,
      some_matches _ _ c.in_ok-bad.field-0 c.in-Some.bad c.in-Some.is c.in_ok-bad.ensures.found,
      is,
    ))
    c.told_of_key.ensures
