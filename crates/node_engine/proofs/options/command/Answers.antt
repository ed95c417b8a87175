use Rattle.std.proofs.Common.{ap₂, ◌∙◌}
use Rattle.std.proofs.lemmas.Result.{IfOk-weaker}
use Rattle.clap.specs.Words.{with_rule}
use Rattle.node_engine.proofs.options.command.Goals as goal

pub returns : goal.returns
returns c =
    let one = c.in_ok-arg.ensures.shape c.required_option.ensures.local
    ∙ ap₂ with_rule c.bare_command.ensures c.required_option.ensures.rule in
    let two = c.in_ok-arg-2.ensures.shape c.required_option-2.ensures.local
    ∙ ap₂ with_rule one c.required_option-2.ensures.rule in
    let three = c.in_ok-arg-3.ensures.shape c.required_option-3.ensures.local
    ∙ ap₂ with_rule two c.required_option-3.ensures.rule in
    let four = c.in_ok-arg-4.ensures.shape c.required_option-4.ensures.local
    ∙ ap₂ with_rule three c.required_option-4.ensures.rule in
    let five = c.in_ok-arg-5.ensures.shape c.set_option.ensures.local
    ∙ ap₂ with_rule four c.set_option.ensures.rule in
    let six = c.in_ok-arg-6.ensures.shape c.set_option-2.ensures.local
    ∙ ap₂ with_rule five c.set_option-2.ensures.rule in
    IfOk-weaker c.arg-7.result _ _
    (λ r h. h.shape c.set_option-3.ensures.local ∙ ap₂ with_rule six c.set_option-3.ensures.rule) c.arg-7.ensures
