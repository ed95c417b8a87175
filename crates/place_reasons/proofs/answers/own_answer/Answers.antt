use Rattle.std.proofs.Common.{sym, ◌∙◌}
use Rattle.jif_tree.specs.Trees.{expr_tree}
use Rattle.label_reasons.specs.Search.{listed_cause, setting_at}
use Rattle.place_reasons.specs.Questions.{expr_answer}
use Rattle.place_reasons.proofs.Firsts.{first_mapped}
use Rattle.place_reasons.proofs.answers.own_answer.Goals as goal

pub returns-in-Call : goal.returns-in-Call
returns-in-Call c rest =
    rw c.in-Call.is ((rw c.deref.ensures.value at c.exprs_answer.ensures)
    ∙ sym (first_mapped (expr_answer c.args.question c.args.place.now.held (setting_at c.args.place.now)
    c.args.statement.now.id c.args.stand.now.of_pc (listed_cause c.args.known.now.causes.items)) expr_tree
    c.in-Call.args.items))
