use Rattle.std.proofs.Common.{inl, inr, refl}
use Rattle.node_engine.specs.Options.{asked_shape}
use Rattle.node_engine.proofs.top.answered.Goals as goal

pub returns-in-Ok-clause-answer : goal.returns-in-Ok-clause-answer
returns-in-Ok-clause-answer g c =
    inr (inr (asked_shape c.in-Ok.options, c.in-Ok.ensures.ok, c.asked.ensures.answer))

pub returns-in-Ok-clause-no_loads : goal.returns-in-Ok-clause-no_loads
returns-in-Ok-clause-no_loads g c = λ none. absurd (none (asked_shape c.in-Ok.options) c.in-Ok.ensures.ok)

pub returns-in-Err-Usage-clause-answer : goal.returns-in-Err-Usage-clause-answer
returns-in-Err-Usage-clause-answer g c =
    inr (inl (refl, c.in-Err-Usage.ensures.usage (cc), record { outside = refl; names = refl }))

pub returns-in-Err-OutOfMemory-clause-answer : goal.returns-in-Err-OutOfMemory-clause-answer
returns-in-Err-OutOfMemory-clause-answer g c = inl (refl, record { outside = refl; names = refl })
