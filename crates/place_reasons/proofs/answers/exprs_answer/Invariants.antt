use Rattle.std.proofs.Common.{◌≡◌, take}
use Rattle.jif_tree.specs.Trees.{expr_tree}
use Rattle.label_reasons.specs.Search.{listed_cause, setting_at}
use Rattle.place_reasons.specs.Firsts.{first_some}
use Rattle.place_reasons.specs.Questions.{expr_answer}
use Rattle.place_reasons.proofs.answers.exprs_answer.Given as goal

-- the first answer of the expressions so far
abbrev pub invariant-loop-value : goal.invariant-loop-value
invariant-loop-value l =
    l.found ≡ first_some (λ value. expr_answer l.question l.place.held (setting_at l.place) l.here l.stand.of_pc
    (listed_cause l.known.causes.items) (expr_tree value)) (take l.value-index l.values)
