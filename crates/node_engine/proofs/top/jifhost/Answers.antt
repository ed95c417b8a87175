use Rattle.std.specs.Option.{option_map}
use Rattle.front_end.specs.Refusals.{refusal_shape}
use Rattle.node_engine.proofs.top.jifhost.Goals as goal

pub returns-clause-answer : goal.returns-clause-answer
returns-clause-answer g c =
    (option_map refusal_shape c.run_jifhost.result.refusal, c.run_jifhost.ensures.answer)
