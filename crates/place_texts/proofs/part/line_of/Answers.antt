use Rattle.jif_tree.specs.Trees.{done, method_tree}
use Rattle.place_texts.proofs.Statements.{line_told}
use Rattle.place_texts.proofs.part.line_of.Goals as goal

pub returns-in-Statement : goal.returns-in-Statement
returns-in-Statement c =
    rw c.in-Statement.is
    (line_told (method_tree c.in-Statement.field-0.now) c.in-Statement.statement.now done)
