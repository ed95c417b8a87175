use Rattle.std.proofs.Common.{◌∙◌}
use Rattle.jif_tree.specs.Trees.{program_tree}
use Rattle.front_end.proofs.Refusals.{unheld_text}
use Rattle.front_end.proofs.refusal_texts.unheld.Goals as goal

pub returns-in_ok-format-in-NoHostForStatement-clause-text :
    goal.returns-in_ok-format-in-NoHostForStatement-clause-text
returns-in_ok-format-in-NoHostForStatement-clause-text c =
    unheld_text (program_tree c.args.program.now) c.deref-in-NoHostForStatement.result.now c.args.why.now
    c.in-NoHostForStatement.statement _ _ c.in-NoHostForStatement.is
    (c.deref-in-NoHostForStatement.ensures.value ∙ c.in_ok-lines-in-NoHostForStatement.ensures)
    c.line_of-line.ensures c.in_ok-format-in-NoHostForStatement.ensures.ok
