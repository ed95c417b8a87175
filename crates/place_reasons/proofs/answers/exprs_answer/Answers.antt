use Rattle.std.proofs.Common.{ap₂, ◌∙◌}
use Rattle.std.specs.Prelude.{None}
use Rattle.jif_tree.specs.Trees.{expr_tree}
use Rattle.label_reasons.specs.Search.{listed_cause, setting_at}
use Rattle.place_reasons.specs.Firsts.{or_first}
use Rattle.place_reasons.specs.Questions.{expr_answer}
use Rattle.place_reasons.proofs.Firsts.{first_more}
use Rattle.place_reasons.proofs.answers.exprs_answer.Goals as goal

pub loop-value-preserved : goal.loop-value-preserved
loop-value-preserved c =
    c.or_first-found.ensures ∙ ap₂ or_first c.loop-value.invariant c.expr_answer.ensures
    ∙ first_more (λ value. expr_answer c.args.question c.args.place.now.held (setting_at c.args.place.now) c.args.here
    c.args.stand.now.of_pc (listed_cause c.args.known.now.causes.items) (expr_tree value)) None c.args.values.now
    c.loop-value.value-index c.value-item.result c.loop-value-test.true c.value-item.is
