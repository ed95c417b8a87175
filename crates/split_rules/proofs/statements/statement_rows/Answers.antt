use Rattle.std.proofs.Common.{ap}
use Rattle.jif_tree.specs.declared.program.StmtKind.{StmtKind}
use Rattle.jif_tree.specs.Trees.{done, statement_tree, head_of}
use Rattle.split_rules.proofs.ToldRows.{few_args}
use Rattle.split_rules.proofs.statements.statement_rows.Goals as goal

pub add_arguments-requires : goal.add_arguments-requires
add_arguments-requires c =
    let is = ap (λ (what : StmtKind). statement_tree what (head_of c.args.statement.now) done) c.in-Call.is in
    rw c.deref.ensures.value (few_args _ c.in-Call.args.items is c.requires)
