use Rattle.std.proofs.Common.{refl}
use Rattle.std.proofs.lemmas.Result.{IfOk-weaker}
use Rattle.split_words.specs.Asked.{command_shape}
use Rattle.front_end.specs.Verdicts.{verdict_shape}
use Rattle.split_cli.proofs.Stops.{verdict_for_words, usage_due}
use Rattle.split_cli.proofs.top.due_verdict.Goals as goal

pub returns-in-Some-clause-due : goal.returns-in-Some-clause-due
returns-in-Some-clause-due g c =
    IfOk-weaker c.verdict_for_command.result _ _
    (λ verdict due. verdict_for_words _ _ _ (verdict_shape verdict) c.in-Some.ensures.command c.in-Some.ensures.found due)
    c.verdict_for_command.ensures.due

pub returns-in-Some-clause-no_loads : goal.returns-in-Some-clause-no_loads
returns-in-Some-clause-no_loads g c = λ none.
    absurd (none (command_shape c.in-Some.asked) c.in-Some.ensures.command c.in-Some.ensures.found)

pub returns-in-None-clause-due : goal.returns-in-None-clause-due
returns-in-None-clause-due g c =
    IfOk-weaker c.usage.result _ _
    (λ verdict is. usage_due _ _ (verdict_shape verdict) c.in-None.ensures.none refl refl
    (record { saves = refl; held = refl }) is) c.usage.ensures
